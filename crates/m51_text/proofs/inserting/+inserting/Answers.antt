use Rattle.std.proofs.Common.{sym, ◌∙◌, arith}
use Rattle.m51_text.specs.Reading.{state_of}
use Rattle.m51_text.proofs.WholeText.{after_line, after_end, after_stop}
use Rattle.m51_text.proofs.inserting.+inserting.Goals as goal

pub read_file-returns-then-is_full-clause-state : goal.read_file-returns-then-is_full-clause-state
read_file-returns-then-is_full-clause-state t c =
    after_stop _ c.loop-text.reading _ _ (sym c.is_full.ensures ∙ c.if-is_full.true) c.loop-text.invariant.state

pub read_file-loop-text-preserved : goal.read_file-loop-text-preserved
read_file-loop-text-preserved t c = record {
  state = after_line c.args.includes.now c.args.levels c.args.file c.loop-text.line c.in-Some.text.now
      c.loop-text.rest.now c.in-Some.after.now
      (state_of c.loop-text.reading) (state_of c.read_line.new.self) (state_of c.insert.new.reading) _
      c.in_ok-inclusion.inclusion
      c.in-Some.ensures.lines c.in_ok-inclusion.ensures.state c.in_ok-inclusion.ensures.inclusion
      c.in_ok-insert.ensures.state c.loop-text.invariant.state;
  line = omega (arith, c.in_ok-inclusion.ensures.more, c.in_ok-insert.ensures.grows);
  grows = omega (arith, c.in_ok-inclusion.ensures.more, c.in_ok-insert.ensures.grows);
}

pub read_file-returns-clause-state : goal.read_file-returns-clause-state
read_file-returns-clause-state t c =
    after_end c.args.includes.now c.args.levels c.args.file c.loop-text.line c.loop-text.rest.now
    (state_of c.loop-text.reading) _ c.in_default.ensures.lines c.loop-text.invariant.state
