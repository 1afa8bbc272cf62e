use Rattle.m51_resolve.proofs.Common.{◌≡◌, drop, supplier, definition_in}
use Rattle.m51_resolve.specs.WorkChoice.{lesser_number}
use Rattle.m51_resolve.proofs.Choices.{least_of}
use Rattle.m51_resolve.proofs.chosen.Chosen.first_supplier.Given as goal

abbrev pub invariant-loop-name : goal.invariant-loop-name
invariant-loop-name l =
    lesser_number l.least
    (least_of (supplier l.self (definition_in l.members.entries)) (drop l.name-index l.name-items))
    ≡ least_of (supplier l.self (definition_in l.members.entries)) l.name-items
