use Rattle.m51_place.proofs
use proofs.Common.{Numbered, Option, Refusal, drop_rest, first_met, option_or, shared_after, shared_at, shared_extents}
use proofs.Common.{Err, List, [], ap, arith, drop, get_or, length, passed, sym, take, ℕ, ◌++◌, ◌+◌, ◌<◌, ◌∙◌, ◌∷◌, ◌≡◌}
use Rattle.std.proofs.lemmas.Result.{err_from_is_err_and}
use proofs.sharing.check_shared.Goals as goal

-- what an extent answers for itself
abbrev next_rule : List Numbered → Numbered → Option Refusal
next_rule earlier e = shared_at earlier e (first_met earlier e)

refused_first : (rule rest : Option Refusal) (e : Refusal) → Err e ≡ passed rule → Err e ≡ passed (option_or rule rest)
refused_first rule rest e h = grind arith

-- what the next extent refuses is refused
refused_here : (fixed : List Numbered) (i : ℕ) (d : Numbered) (e : Refusal) → i < length fixed
    → shared_after (take i fixed) (drop i fixed) ≡ shared_extents fixed → Err e
    ≡ passed (next_rule (take i fixed) (get_or fixed i d)) → Err e ≡ passed (shared_extents fixed)
refused_here fixed i d e below whole h =
    refused_first (next_rule (take i fixed) (get_or fixed i d))
    (shared_after (take i fixed ++ get_or fixed i d ∷ []) (drop (i + 1) fixed)) e h
    ∙ ap passed
    (sym (ap (λ (rest : List Numbered). shared_after (take i fixed) rest) (drop_rest fixed i d below)) ∙ whole)

pub returns-in_err-check_next : goal.returns-in_err-check_next
returns-in_err-check_next c =
    let fixed = c.args.fixed.now in
    let i = c.loop-index.index in
    let p = err_from_is_err_and c.from_residual.result c.from_residual.ensures.1 in
    let here : Err c.in_err-check_next.field-0.0 ≡ passed (next_rule (take i fixed) c.index-fixed-index.result) =
    c.in_err-check_next.ensures in
    rw (p.1, p.2)
    (refused_here fixed i c.index-fixed-index.result c.in_err-check_next.field-0.0 c.loop-index-test.true
    c.loop-index.invariant
    (here ∙ ap (λ (x : Numbered). passed (next_rule (take i fixed) x)) c.index-fixed-index.is))
