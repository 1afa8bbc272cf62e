use Rattle.m51_resolve.proofs.Common.{ap, sym, ◌∙◌, entry_by_name}
use Rattle.m51_resolve.proofs.JoinSteps.{absolute_is, joined_within, number_is}
use Rattle.m51_resolve.proofs.joining.joined_with.Goals as goal

pub returns-then-is_relocatable : goal.returns-then-is_relocatable
returns-then-is_relocatable c =
    let index = c.copied.ensures ∙ c.get.ensures.value ∙ ap (λ ns. entry_by_name ns c.args.segment.now.name) c.requires
    ∙ number_is c.args.growing.now c.args.segment.now (sym c.is_relocatable.ensures ∙ c.if-is_relocatable.true) in
    record { index = index; within = joined_within c.args.growing.now c.args.segment.now c.copied.result index }

pub returns-else-is_relocatable-clause-index : goal.returns-else-is_relocatable-clause-index
returns-else-is_relocatable-clause-index c =
    absolute_is c.args.growing.now c.args.segment.now (sym c.is_relocatable.ensures ∙ c.if-is_relocatable.false)
