use Rattle.std.proofs.Common.{◌≡◌, ◌++◌, take}
use Rattle.std.specs.List.{flat_map}
use Rattle.m51_frame.specs.Frame.{record_of}
use Rattle.m51_records.proofs.record.write_records.Given as goal

abbrev pub invariant-loop-item : goal.invariant-loop-item
invariant-loop-item g l = l.out.items
    ≡ l.fn.out.items ++ flat_map (λ x. record_of g.T.Record.TYPE (g.T.Record.spelled x)) (take l.item-index l.items)
