use Rattle.std.proofs.Common.{ℕ, Bool, nat_eq, ◌||◌, ◌&&◌, sym, ap, ◌∙◌}
use Rattle.m51_relations.specs.Rows.{pairs}
use Rattle.m51_relations.proofs.BitLaws.{and_true}
use Rattle.m51_relations.proofs.bit_rows.BitRows.put_if.Goals as goal

pub returns-then-holds-clause-pairs : goal.returns-then-holds-clause-pairs
returns-then-holds-clause-pairs c = λ u v.
    let here : Bool = nat_eq u c.args.from && nat_eq v c.args.to in
    ap (λ (p : ℕ → ℕ → Bool). p u v) c.put.ensures.pairs
    ∙ ap (λ b. b || pairs c.args.self.now u v) (and_true here ∙ ap (λ b. here && b) (sym c.if-holds.true))
