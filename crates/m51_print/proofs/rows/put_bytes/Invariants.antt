use Rattle.std.proofs.Common.{◌≡◌, ◌+◌, ◌*◌, ◌++◌, take}
use Rattle.std.specs.Prelude.{flat_map}
use Rattle.m51_cells.specs.Hex.{hex2}
use Rattle.m51_print.proofs.rows.put_bytes.Given as goal

abbrev pub invariant-loop-byte : goal.invariant-loop-byte
invariant-loop-byte l = (l.end ≡ l.at + 2 * l.byte-index)
    × (take l.end l.into ≡ take l.at l.fn.into ++ flat_map hex2 (take l.byte-index l.bytes))
