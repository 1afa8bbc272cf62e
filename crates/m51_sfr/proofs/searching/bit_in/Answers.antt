-- The address of the bit that is found.
use Rattle.std.proofs.Common.{◌+◌, Some, ap, ◌∙◌}
use Rattle.std.specs.Prelude.{option_map}
use Rattle.m51_sfr.specs.Registers.{row, bit_row}
use Rattle.m51_sfr.specs.Coded.{CodedBit}
use Rattle.m51_sfr.proofs.Searches.{found_twice}
use Rattle.m51_sfr.proofs.searching.bit_in.Goals as goal

pub returns-in_err-found : goal.returns-in_err-found
returns-in_err-found c =
    c.from_residual.ensures ∙ ap (option_map (λ (b : CodedBit). c.args.address + b.1)) c.in_err-found.ensures
    ∙ found_twice (bit_row c.args.address) (λ (b : CodedBit). row b.0.now b.1) c.args.bits.now c.args.name.now

pub returns : goal.returns
returns c =
    ap (λ n. Some n) c.sum.ensures ∙ ap (option_map (λ (b : CodedBit). c.args.address + b.1)) c.in_ok-found.ensures
    ∙ found_twice (bit_row c.args.address) (λ (b : CodedBit). row b.0.now b.1) c.args.bits.now c.args.name.now
