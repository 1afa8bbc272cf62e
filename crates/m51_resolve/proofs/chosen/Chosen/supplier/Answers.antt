use Rattle.m51_resolve.proofs.Common.{definition_in}
use Rattle.m51_resolve.proofs.Choices.{supplied}
use Rattle.m51_resolve.proofs.chosen.Chosen.supplier.Goals as goal

pub returns-in-Some : goal.returns-in-Some
returns-in-Some c = rw (
  ← c.self.view_is,
  supplied _ _ c.self.invariant.definitions_are (definition_in c.args.members.now.entries) c.args.name.now _
      c.public_definition.ensures,
  c.in-Some.is,
)

pub returns-in-None : goal.returns-in-None
returns-in-None c = rw (
  c.defining_module.ensures,
  c.public_definition-in-None.ensures,
  ← c.self.view_is,
  supplied _ _ c.self.invariant.definitions_are (definition_in c.args.members.now.entries) c.args.name.now _
      c.public_definition.ensures,
  c.in-None.is,
)
