use Rattle.m51_flat.proofs.Common.{◌≡◌, ◌<◌, ◌+◌, ◌/◌, rules, arith, length, slice_index}
use Rattle.std.proofs.lemmas.Grind.{common_steps}
use Rattle.m51_flat.proofs.BitLaws.{flat_bit}
use Rattle.m51_flat.proofs.ram.FlatRamCellStore.put.Goals as goal

pub returns-in-Bit-clause-cells : goal.returns-in-Bit-clause-cells
returns-in-Bit-clause-cells c =
    let m = c.self.inside in
    let len : length m.ram.items ≡ 256 = search rules in
    let fits : c.in-Bit.address < 256 = search rules in
    let byte : c.index.result.now ≡ slice_index m.ram.items (32 + c.in-Bit.address / 8) = grind (arith, common_steps) in
    rw (c.in-Bit.is, ← c.self.view_is, c.from-at.ensures, c.replace_bit.ensures, byte)
    (flat_bit (record { ram = m.ram.items; xram = m.xram.items }) c.in-Bit.address c.in-Bit.value fits len)
