use Rattle.std.proofs.Common.{◌≡◌, ◌++◌, take}
use Rattle.std.specs.Prelude.{flat_map}
use Rattle.m51_print.specs.Stack.{line_of_root}
use Rattle.m51_print.proofs.stack.push_roots.Given as goal

abbrev pub invariant-loop-root : goal.invariant-loop-root
invariant-loop-root l = l.text.items ≡ l.fn.text.items ++ flat_map (line_of_root l.layout) (take l.root-index l.roots)
