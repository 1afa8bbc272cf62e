-- Tables that agree give the same text.
use Rattle.std.proofs.Common.{◌≡◌, ℕ, ◌+◌, ◌<◌, List, [], ◌∷◌, ◌++◌, append_assoc, refl, arith}
use Rattle.std.specs.Prelude.{codes}
use Rattle.m51_steps.specs.Listing.{mark_after}
use Rattle.m51_steps.specs.Counts.{AgreesWith, Kept, Table, address_line, address_lines, idle_line, table_in}
use Rattle.m51_steps.specs.Counts.{table_text, vector_line, vector_lines}
use Rattle.m51_steps.specs.declared.shape.Shape.{Shape}
use Rattle.m51_steps.specs.declared.shape.Shape.TheVariants.{Lines, Ram, Counts}
use Rattle.m51_steps.specs.Traced.{ending_by}
use Rattle.m51_steps.proofs.Listed.{listed_same}

module _ (image : List ℕ) (kept : Kept) (t : Table) (same : AgreesWith kept t) where
  same_address : (address : ℕ) → address < 65536
      → address_line image (table_in kept) address ≡ address_line image t address
  unfolding address_line
  same_address address below =
      rw (same.times address (omega (arith, below)), same.cycles address (omega (arith, below))) refl

  same_vector : (source : ℕ) → source < 6 → vector_line (table_in kept) source ≡ vector_line t source
  unfolding vector_line
  same_vector source below =
      rw (same.times (65536 + source) (omega (arith, below)), same.cycles (65536 + source) (omega (arith, below))) refl

  same_idle : idle_line (table_in kept) ≡ idle_line t
  unfolding idle_line
  same_idle = rw (same.times 65542 (omega arith), same.cycles 65542 (omega arith)) refl

  same_addresses : (count : ℕ) → count < 65537 → address_lines image (table_in kept) count ≡ address_lines image t count
  unfolding address_lines
  same_addresses count few =
      listed_same (address_line image (table_in kept)) (address_line image t) [] [] count 0
      (λ a below. same_address a (omega (arith, below, few)))

  same_vectors : (count : ℕ) → count < 7 → vector_lines (table_in kept) count ≡ vector_lines t count
  unfolding vector_lines
  same_vectors count few =
      listed_same (vector_line (table_in kept)) (vector_line t) [] [] count 0
      (λ a below. same_vector a (omega (arith, below, few)))

  same_table : table_text image (table_in kept) ≡ table_text image t
  unfolding table_text
  same_table = rw (same_addresses 65536 (omega arith), same_vectors 6 (omega arith), same_idle) refl

-- the text of a table by the titles of its columns
pub table_is : (titles image : List ℕ) (t : Table) → titles ≡ codes "PC\tTIMES\tCYCLES\tNEXT\n"
    → titles ++ (address_lines image t 65536 ++ (vector_lines t 6 ++ idle_line t)) ≡ table_text image t
unfolding table_text
table_is titles image t same = cc (
  same,
  append_assoc (titles ++ address_lines image t 65536) (vector_lines t 6) (idle_line t),
  append_assoc titles (address_lines image t 65536) (vector_lines t 6 ++ idle_line t),
)

-- what is listed without marks
pub no_mark : (it : List ℕ) → [] ≡ mark_after [] [] it
no_mark [] = refl
no_mark (c ∷ cs) = refl

-- what comes after a run, by what is kept and by the table
pub ending_same : (shape : Shape) (i j : List ℕ) (kept : Kept) (t : Table) → i ≡ j → AgreesWith kept t
    → ending_by shape i (table_in kept) ≡ ending_by shape j t
ending_same (Lines w) i j kept t e same = refl
ending_same (Ram w) i j kept t e same = refl
ending_same Counts i j kept t e same = rw e (same_table j kept t same)
