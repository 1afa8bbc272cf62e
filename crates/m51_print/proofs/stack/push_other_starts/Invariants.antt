use Rattle.std.proofs.Common.{◌≡◌, ◌++◌, map, take}
use Rattle.std.specs.Prelude.{flat_map}
use Rattle.m51_print.specs.Map.{after_comma}
use Rattle.m51_print.specs.Stack.{start_text}
use Rattle.m51_print.proofs.stack.push_other_starts.Given as goal

abbrev pub invariant-loop-start : goal.invariant-loop-start
invariant-loop-start l = l.text.items ≡ l.fn.text.items
    ++ flat_map after_comma (map start_text (take l.start-index l.starts))
