use Rattle.m51_resolve.proofs.Common.{◌≡◌, false, ◌∙◌, sym, wanted_in}
use Rattle.m51_resolve.proofs.Tables.{puts_nothing}
use Rattle.m51_resolve.proofs.definitions.note_if.Goals as goal

pub returns-then-not-contains : goal.returns-then-not-contains
returns-then-not-contains c =
    let none : wanted_in c.args.asked.now.keys c.args.name.now ≡ false = sym c.contains.ensures
    ∙ c.if-not-contains.true in
    puts_nothing c.args.asked.now.keys c.args.name.now c.args.table.now.entries c.args.definition none
