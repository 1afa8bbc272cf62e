use Rattle.std.proofs.Common.{◌≡◌, take}
use Rattle.std.specs.Prelude.{flat_map}
use Rattle.m51_hex.specs.Record.{line_of_record}
use Rattle.m51_hex.specs.Writing.{records_of}
use Rattle.m51_hex.proofs.writing.write_hex.Given as goal

abbrev pub invariant-loop-run : goal.invariant-loop-run
invariant-loop-run l = l.text.items
    ≡ flat_map (λ run. flat_map line_of_record (records_of l.bytes run)) (take l.run-index l.written)
