use Rattle.m51_chain.proofs.Common.{List, drop, ℕ, ◌++◌, ◌≡◌}
use Rattle.std.specs.Prelude.{fold}
use Rattle.m51_jobs.specs.Texts.{lent}
use Rattle.m51_chain.specs.Refusals.{joined_texts}
use Rattle.m51_chain.proofs.refusing.joined_texts.Given as goal

abbrev pub invariant-loop-part : goal.invariant-loop-part
invariant-loop-part l =
    fold (λ (text : List ℕ) (part : List ℕ). text ++ part) l.bytes.items (lent (drop l.part-index l.parts))
    ≡ joined_texts (lent l.parts)
