use Rattle.m51_stackbound.proofs.Common.{inl}
use Rattle.m51_stackbound.proofs.Deciding.{above_by}
use Rattle.m51_stackbound.proofs.bounding.is_above.Goals as goal

pub returns-in-Some : goal.returns-in-Some
returns-in-Some c = inl (c.in-Some.field-0, c.in-Some.ensures.0)

pub returns-in-None : goal.returns-in-None
returns-in-None c = above_by _ _ _ _ c.requires.depths _ c.is_too_deep.ensures c.in-None.ensures
