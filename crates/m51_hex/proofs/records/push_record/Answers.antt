use Rattle.m51_hex.specs.Record.{seen}
use Rattle.m51_hex.proofs.Spelling.{line_of_parts}
use Rattle.m51_hex.proofs.records.push_record.Goals as goal

pub returns : goal.returns
returns c =
    rw (
      c.in_ok-push-2.ensures.items,
      c.in_ok-push_byte.ensures,
      c.in_ok-push_bytes-2.ensures,
      c.in_ok-push_bytes.ensures,
      c.in_ok-push.ensures.items,
      c.checksum_of-checksum.ensures,
    )
    (line_of_parts _ _ (seen c.args.«record».now) c.front_of-front.ensures)
