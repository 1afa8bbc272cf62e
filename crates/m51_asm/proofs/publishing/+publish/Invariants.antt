use Rattle.m51_asm.proofs
use proofs.Common.{length}
use proofs.publishing.+publish.Given as goal

abbrev pub decreases-publish : goal.decreases-publish
decreases-publish l = length l.list.now
