use Rattle.std.proofs.Common.{◌<◌, ◌∙◌, arith, length}
use Rattle.std.proofs.lemmas.List.{length-set}
use Rattle.m51_monitor.specs.Shared.{shared_cells}
use Rattle.m51_steps.specs.Ram.{byte_code}
use Rattle.m51_steps.proofs.Shown.{codes_more}
use Rattle.m51_steps.proofs.ram.byte_codes.Goals as goal

pub loop-address-preserved : goal.loop-address-preserved
loop-address-preserved c =
    let inside : c.loop-address.address < length c.loop-address.now = omega (arith, c.loop-address.invariant.whole) in
    record {
      whole = length-set c.loop-address.now c.loop-address.address c.byte_code.result ∙ c.loop-address.invariant.whole;
      shown = codes_more c.loop-address.now (byte_code (shared_cells c.args.store.now)) c.loop-address.address
          c.byte_code.result inside c.byte_code.ensures.code c.loop-address.invariant.shown;
    }
