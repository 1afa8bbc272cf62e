-- The refusals of a link.
use Rattle.m51_module.specs.declared.linked.Refusal.{Refusal}
use Rattle.m51_module.specs.declared.linked.Refusal.TheVariants as refusal
use Rattle.m51_print.specs.Refusals.{refusal_text}
use Rattle.m51_chain.specs.declared.work.Reason.{Reason}
use Rattle.m51_chain.specs.declared.work.Reason.TheVariants as reason
use Rattle.m51_chain.specs.Outcome.{Outcome, refused}

-- a link is refused at a limit, or by a rule
abbrev pub reason_of : Refusal → Reason
reason_of (refusal.Limit what) = reason.Limit
reason_of other = reason.Link

abbrev pub link_outcome : Refusal → Outcome
link_outcome why = refused (reason_of why) (refusal_text why)
