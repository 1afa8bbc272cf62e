use Rattle.m51_stackbound.proofs.Leasts.{notes_place}
use Rattle.m51_stackbound.proofs.doubling.ReachedAddresses.note.Goals as goal

pub returns : goal.returns
returns c =
    rw (← c.self.view_is, c.in_ok-added.ensures.keys) (notes_place _ _ _ c.in_ok-added.ensures.added)
