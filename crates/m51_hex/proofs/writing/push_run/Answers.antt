use Rattle.std.proofs.Common.{append_assoc}
use Rattle.m51_hex.proofs.Spelling.{first_lines_more}
use Rattle.m51_hex.proofs.writing.push_run.Goals as goal

pub loop-number-preserved : goal.loop-number-preserved
loop-number-preserved c =
    rw (
      c.in_ok-push_record.ensures,
      c.record_at.ensures.is,
      c.loop-number.invariant,
      append_assoc,
      first_lines_more c.args.image.now c.args.run.now c.loop-number.number,
    )
