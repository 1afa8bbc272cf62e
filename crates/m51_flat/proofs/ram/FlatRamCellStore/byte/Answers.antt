use Rattle.m51_flat.proofs.Common.{◌≡◌, ◌<◌, rules, sym, ap, subst, ◌∙◌, arith, slice_index, Value, FlatBytes}
use Rattle.m51_flat.proofs.Common.{flat_cells}
use Rattle.std.proofs.lemmas.Grind.{common_steps}
use Rattle.m51_flat.specs.States.{byte_seen}
use Rattle.m51_flat.proofs.BitLaws.{flat_byte}
use Rattle.m51_flat.proofs.ram.FlatRamCellStore.byte.Goals as goal

pub returns : goal.returns
returns c =
    let m : FlatBytes = record { ram = c.self.inside.ram.items; xram = c.self.inside.xram.items } in
    let e : c.index.result.now ≡ slice_index m.ram c.args.address = grind (arith, common_steps) in
    let inside : c.args.address < 256 = search rules in
    let fits : slice_index m.ram c.args.address < 256 = search rules in
    subst (λ m. Value c.index.result.now ≡ byte_seen (flat_cells m) c.args.address) c.self.view_is
    (ap Value e ∙ sym (flat_byte m c.args.address inside fits))
