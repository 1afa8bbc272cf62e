use Rattle.std.proofs.Common.{◌≡◌, ◌++◌, take}
use Rattle.std.specs.Prelude.{flat_map}
use Rattle.m51_print.specs.Stack.{line_of_proc}
use Rattle.m51_print.proofs.stack.push_procs.Given as goal

abbrev pub invariant-loop-proc : goal.invariant-loop-proc
invariant-loop-proc l = l.text.items ≡ l.fn.text.items ++ flat_map (line_of_proc l.layout) (take l.proc-index l.procs)
