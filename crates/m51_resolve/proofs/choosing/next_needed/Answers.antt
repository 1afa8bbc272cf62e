use Rattle.m51_resolve.proofs
use proofs.Common.{◌≡◌, List, Option, None, ap, cond, false, length, map, arith, nat_lt, MOST_MODULES, ModuleParts}
use proofs.Common.{Definition, IsWanted, defining_module, supplier, definition_in, public_definition, defines}
use Rattle.std.proofs.lemmas.Grind.{common_steps}
use proofs.Tables.{asked_at}
use proofs.Choices.{earliest_gives, next_is}
use Rattle.m51_resolve.proofs.choosing.next_needed.Goals as goal

pub returns : goal.returns
returns c =
    let chosen = c.args.chosen.now in
    let members : List ModuleParts = map (λ m. m.now) c.args.members.now in
    let few : nat_lt MOST_MODULES (length chosen) ≡ false =
    grind (arith, common_steps, c.if-count-gt-MOST_MODULES.false, c.count.ensures) in
    let table = c.args.definitions.now.entries in
    next_is chosen members c.first_supplier.result few
    (earliest_gives (supplier chosen (definition_in table)) (supplier chosen (public_definition members))
    (IsWanted chosen) c.first_supplier.result
    (λ name w. ap (λ (o : Option Definition). cond (defines chosen name) None (defining_module o))
    (asked_at c.args.asked.now.keys members table c.requires.definitions name (c.requires.asked name w)))
    c.first_supplier.ensures)
