use Rattle.m51_asm.specs.Answer.{Gives, IsAnswer}
use Rattle.m51_chain.proofs.Built.{answered_rows}
use Rattle.m51_chain.proofs.assembling.assembled.Goals as goal

pub list-requires : goal.list-requires
list-requires c =
    let h : IsAnswer c.args.all.now.source c.args.all.now.includes.items (Gives c.in-Module.parts c.in-Module.rows) =
    rw c.in-Module.is at c.requires in
    rw c.deref.ensures.value (answered_rows _ _ _ _ h)

pub returns-in_ok-list-in-Module : goal.returns-in_ok-list-in-Module
returns-in_ok-list-in-Module c =
    rw c.in-Module.is (rw c.deref.ensures.value at (c.in_ok-list-in-Module.ensures c.args.files.now))
