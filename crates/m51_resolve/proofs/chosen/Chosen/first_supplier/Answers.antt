use Rattle.m51_resolve.proofs
use proofs.Common.{◌≡◌, List, ap, arith, subst, ◌∙◌, ModuleParts, IsEarliest, IsWanted, supplier, definition_in}
use proofs.Choices.{earliest, least_done, least_more, least_of}
use Rattle.m51_resolve.proofs.chosen.Chosen.first_supplier.Goals as goal

pub loop-name-preserved : goal.loop-name-preserved
loop-name-preserved c =
    rw (c.lesser_number-least.ensures, c.supplier.ensures)
    (least_more (supplier c.args.self.now (definition_in c.args.members.now.entries)) _ _ c.name-item.result
    c.loop-name.least _ c.loop-name-test.true c.name-item.is c.loop-name.invariant)

pub returns : goal.returns
returns c =
    let gives = supplier c.args.self.now (definition_in c.args.members.now.entries) in
    let keys = c.self.inside.wanted.keys in
    let least : c.loop-name.least ≡ least_of gives keys =
    least_done gives c.as_slice-name-items.result.now c.loop-name.name-index c.loop-name.least (omega (
      arith,
      c.loop-name-test.false,
    )) c.loop-name.invariant
    ∙ ap (least_of gives) c.as_slice-name-items.ensures.keys in
    rw least
    (subst (λ (ms : List ModuleParts). IsEarliest gives (IsWanted ms) (least_of gives keys)) c.self.view_is
    (earliest gives c.self.inside.modules.items keys c.self.invariant.wanted_are))
