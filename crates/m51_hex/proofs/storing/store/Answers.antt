use Rattle.std.proofs.Common.{length, ap, ◌∙◌, arith}
use Rattle.std.proofs.lemmas.List.{length-set}
use Rattle.m51_hex.specs.Memory.{memory_in}
use Rattle.m51_hex.specs.Record.{seen}
use Rattle.m51_hex.proofs.StoredBytes.{filled_none, filled_whole, filled_more}
use Rattle.m51_hex.proofs.storing.store.Goals as goal

pub loop-offset-init : goal.loop-offset-init
loop-offset-init c = record {
  whole = c.requires.whole;
  memory = filled_none (memory_in c.args.image.now) (seen c.args.«record».now);
}

pub loop-offset-preserved : goal.loop-offset-preserved
loop-offset-preserved c = record {
  whole = ap length c.set.ensures ∙ length-set _ _ _ ∙ c.loop-offset.invariant.whole;
  memory = ap memory_in c.set.ensures
      ∙ filled_more c.loop-offset.image (memory_in c.args.image.now) (seen c.args.«record».now) c.loop-offset.offset
      c.loop-offset.invariant.whole (omega (arith, c.requires.within, c.loop-offset-test.true))
      c.loop-offset.invariant.memory;
}

pub returns-clause-memory : goal.returns-clause-memory
returns-clause-memory c = c.loop-offset.invariant.memory
    ∙ filled_whole (memory_in c.args.image.now) (seen c.args.«record».now) c.loop-offset.offset (omega arith)
