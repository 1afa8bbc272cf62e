use Rattle.m51_resolve.proofs.Common.{◌≡◌, ap, sym, ◌∙◌, ◌++◌, ◌∷◌, [], length, None, entry_by_name}
use Rattle.m51_resolve.proofs.JoinSteps.{number_is, numbers_absolute, numbers_named, put_last}
use Rattle.m51_resolve.proofs.joining.number_next.Goals as goal

pub returns-in_ok-insert : goal.returns-in_ok-insert
returns-in_ok-insert c =
    let growing = c.args.growing.now in
    let s = c.args.segment.now in
    let relocatable = sym c.is_relocatable.ensures ∙ c.if-is_relocatable.true in
    let absent : entry_by_name c.args.numbers.now.entries s.name ≡ None =
    ap (λ ns. entry_by_name ns s.name) c.requires.numbers ∙ number_is growing s relocatable ∙ c.requires.unseen in
    c.in_ok-insert.ensures.entries ∙ put_last c.args.numbers.now.entries s.name (length growing) absent
    ∙ ap (λ ns. ns ++ (s.name, length growing) ∷ []) c.requires.numbers ∙ numbers_named growing s relocatable

pub returns-else-is_relocatable : goal.returns-else-is_relocatable
returns-else-is_relocatable c = c.requires.numbers
    ∙ numbers_absolute c.args.growing.now c.args.segment.now (sym c.is_relocatable.ensures ∙ c.if-is_relocatable.false)
