use Rattle.std.proofs.Common.{◌≡◌, rules}
use Rattle.m51_module.specs.Arguments.{raised}
use Rattle.m51_module.proofs.Raised.{raised_valid}
use Rattle.m51_module.proofs.module.Module.raise_in_place.Goals as goal

pub invariant_of-self : goal.invariant_of-self
invariant_of-self c =
    let is : c.raised_parts.result ≡ raised c.self.inside.parts = search rules in
    rw is (raised_valid c.self.inside.parts c.self.invariant)
