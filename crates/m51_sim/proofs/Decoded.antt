-- The instructions of an image, decoded one after another.
use Rattle.m51_sim.proofs.Common.{◌≡◌, ℕ, ◌+◌, List, [], ◌∷◌, ◌++◌, length, refl, sym, ap, ◌∙◌}
use Rattle.m51_sim.proofs.Common.{arith, length-append}
use Rattle.std.proofs.Common.{inl, inr}
use Rattle.std.proofs.Math.ListN.{get_or-append}
use Rattle.std.proofs.Math.Seq.{get_or-append_seam}
use Rattle.std.proofs.lemmas.Bool.{cases_lt}
use Rattle.m51_sim.specs.declared.program.Row.{Row}
use Rattle.m51_sim.specs.Plain.{row_of}
use Rattle.m51_sim.specs.Rows.{AreDecodedRows}

pub no_rows : (image : List ℕ) → AreDecodedRows image [] 0
no_rows image = record { len = refl; row = λ a d h. absurd (omega (arith, h)) }

pub one_row : (image : List ℕ) (rows : List Row) (count : ℕ) (row : Row)
    → row ≡ row_of image count → AreDecodedRows image rows count → AreDecodedRows image (rows ++ row ∷ []) (count + 1)
one_row image rows count row e are = record {
  len = let len = length-append rows (row ∷ []) in omega (arith, len, are.len);
  row = λ a d h. elim (cases_lt a count) [
    | inl before ↦ get_or-append rows (row ∷ []) d a (omega (arith, before, are.len)) ∙ are.row a d before
    | inr last ↦ let here : a ≡ length rows = omega (arith, h, last, are.len) in
        rw here (get_or-append_seam rows row [] d ∙ e ∙ ap (row_of image) (sym are.len))
  ];
}
