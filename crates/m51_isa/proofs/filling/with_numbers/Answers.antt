use Rattle.std.proofs.Common.{◌≡◌, ℕ, ◌∙◌, refl, sym, subst, ap}
use Rattle.m51_isa.specs.declared.table.Columns.{Columns}
use Rattle.m51_isa.specs.Filling.{with_numbers}
use Rattle.m51_isa.specs.Rows.{columns_at, made_at, refilled, room}
use Rattle.m51_isa.proofs.NumberedRows.{numbers_at}
use Rattle.m51_isa.proofs.filling.with_numbers.Goals as goal

module _ (n a b c x y z p q t : ℕ) where
  -- the operands of these columns take these numbers
  abbrev Takes : Columns → Type 0
  Takes s =
      (room s.first p ≡ refilled s.first a x) × (room s.second q ≡ refilled s.second b y)
      × (room s.third t ≡ refilled s.third c z)

  are_taken : (s : Columns) → Takes s → made_at n (room s.first p) (room s.second q) (room s.third t)
      ≡ made_at n (refilled s.first a x) (refilled s.second b y) (refilled s.third c z)
  are_taken s k = rw k.0 (rw k.1 (rw k.2 refl))

pub returns : goal.returns
returns c =
    let n : ℕ = c.numbers_of-numbers.result.row in
    c.instr_of.ensures
    ∙ are_taken n _ _ _ _ _ _ _ _ _ (columns_at n)
    (subst (Takes n _ _ _ _ _ _ _ _ _) c.row_at.ensures.columns
    (c.refilled-a.ensures, c.refilled-b.ensures, c.refilled-c.ensures))
    ∙ sym (numbers_at n _ _ _ c.numbers_of-numbers.ensures.row c.args.a c.args.b c.args.c)
    ∙ sym (ap (λ i. with_numbers i c.args.a c.args.b c.args.c) c.numbers_of-numbers.ensures.is.is)
