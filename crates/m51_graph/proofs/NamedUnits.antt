-- Tables from names and joined numbers to units.
use Rattle.m51_graph.proofs.Common.{◌≡◌, inl, inr, ℕ, zero, suc, ◌+◌, ◌<◌, ◌≤◌, Bool, cond, List, [], ◌∷◌, ◌++◌, length}
use Rattle.m51_graph.proofs.Common.{take, get_or, refl, sym, ap, ◌∙◌, arith, Option, Some, None, nat_eq, cases_Bool}
use Rattle.m51_graph.proofs.Common.{ne_eqb, take_more, option_or, bytes_eq, named, units_from, units_of, JoinedSegment}
use Rattle.m51_graph.proofs.Common.{◌&&◌, drop, and_from, and_parts, Decides-eqb}
use Rattle.std.proofs.Common.{position, add-zero, eq-eqb}
use Rattle.std.specs.Prelude.{slice_index_or, unwrap_or}
use Rattle.std.specs.List.{position_from, starts_with}
use Rattle.std.proofs.lemmas.Iterator.Adapters.{position_from-zero}
use Rattle.std.proofs.lemmas.List.{length-take-le}
use Rattle.std.proofs.lemmas.Slice.Eq.{bytes_eq-Decides, starts_is}
use Rattle.m51_cells.specs.Kinds.{is_code}
use Rattle.m51_graph.specs.Numbered.{AreNumbers, IsUnitTable, number_by_name, units_by_segment}
use Rattle.std.proofs.Math.Seq.{drop-append_seam}
use Rattle.std.proofs.lemmas.Bool.Decides.{same_from_decides}

-- one more item
from_push : {X : Type 0} (p : X → Bool) (n : ℕ) (xs : List X) (x : X)
    → position_from p n (xs ++ x ∷ []) ≡ option_or (position_from p n xs) (cond (p x) (Some (n + length xs)) None)
from_push p n [] x = rw (add-zero n)
from_push p n (y ∷ xs) x =
    let next : n + 1 + length xs ≡ n + suc (length xs) = omega arith in
    rw (from_push p (n + 1) xs x, next) (grind arith)

position_more : {X : Type 0} (p : X → Bool) (xs : List X) (i : ℕ) (d : X) → i < length xs
    → position p (take (i + 1) xs) ≡ option_or (position p (take i xs)) (cond (p (get_or xs i d)) (Some i) None)
position_more p xs i d below =
    let same : 0 + length (take i xs) ≡ i = omega (arith, length-take-le i xs (omega (arith, below))) in
    rw (
      position_from-zero p (take (i + 1) xs),
      position_from-zero p (take i xs),
      take_more xs i d below,
      from_push p 0 (take i xs) (get_or xs i d),
      same,
    ) refl

or_same : (o : Option ℕ) (i : ℕ) → (Some (unwrap_or o i) ≡ option_or o (Some i)) × (o ≡ option_or o None)
or_same o i = grind arith

-- the table has the first units of the titles before the next one
pub record AreBefore (titles : List (List ℕ)) (i : ℕ) (numbers : List (List ℕ × ℕ)) : Type 0 where
  pub each : (name : List ℕ) → number_by_name numbers name ≡ named (take i titles) name

-- one more title
pub before_more : (titles : List (List ℕ)) (i : ℕ) (d title : List ℕ) (now new : List (List ℕ × ℕ)) → i < length titles
    → title ≡ get_or titles i d → AreBefore titles i now
    → ((name : List ℕ) → number_by_name new name
    ≡ cond (bytes_eq title name) (Some (unwrap_or (number_by_name now title) i)) (number_by_name now name))
    → AreBefore titles (i + 1) new
before_more titles i d title now new below is before updates = record {
  each = λ name.
      let old = named (take i titles) name in
      let whole : named (take (i + 1) titles) name ≡ option_or old (cond (bytes_eq title name) (Some i) None) =
      rw is (position_more (λ t. bytes_eq t name) titles i d below) in
      updates name ∙ elim (cases_Bool (bytes_eq title name)) [
        | inl same ↦ rw (whole, same, (bytes_eq-Decides title name).0 same, before.each name) (or_same old i).0
        | inr other ↦ rw (whole, other, before.each name) (or_same old i).1
      ];
}

-- all titles
pub before_all : (titles : List (List ℕ)) (i : ℕ) (numbers : List (List ℕ × ℕ)) → length titles ≤ 1000 → take i titles
    ≡ titles → AreBefore titles i numbers → AreNumbers titles numbers
before_all titles i numbers few all before =
    record { few = few; each = λ name. before.each name ∙ ap (λ ts. named ts name) all }

-- no unit has a joined number below the first
none_before : (m number unit : ℕ) (segments : List JoinedSegment) → m < number
    → position_from (nat_eq m) unit (units_from number segments) ≡ None
none_before m number unit [] below = refl
none_before m number unit (j ∷ more) below = elim (cases_Bool (is_code j.kind)) [
  | inl code ↦ rw (
    code,
    ne_eqb m number (λ e. absurd (omega (arith, e, below))),
    none_before m (number + 1) (unit + 1) more (omega (arith, below)),
  )
  | inr other ↦ rw (other, none_before m (number + 1) unit more (omega (arith, below)))
]

-- the table has the unit of each joined number
entry_is : (number unit : ℕ) (segments : List JoinedSegment) (n : ℕ)
    → slice_index_or (units_by_segment unit segments) n None
    ≡ position_from (nat_eq (number + n)) unit (units_from number segments)
entry_is number unit [] n = refl
entry_is number unit (j ∷ more) zero = elim (cases_Bool (is_code j.kind)) [
  | inl code ↦ rw (code, eq-eqb (number + 0) number (omega arith))
  | inr other ↦ rw other (sym (none_before (number + 0) (number + 1) unit more (omega arith)))
]
entry_is number unit (j ∷ more) (suc n) =
    let next : number + 1 + n ≡ number + suc n = omega arith in
    elim (cases_Bool (is_code j.kind)) [
      | inl code ↦ rw (code, ne_eqb (number + suc n) number (λ e. absurd (omega (arith, e))))
          (entry_is (number + 1) (unit + 1) more n
          ∙ ap (λ m. position_from (nat_eq m) (unit + 1) (units_from (number + 1) more)) next)
      | inr other ↦ rw other
          (entry_is (number + 1) unit more n
          ∙ ap (λ m. position_from (nat_eq m) unit (units_from (number + 1) more)) next)
    ]

pub unit_table : (segments : List JoinedSegment) → length (units_of segments) ≤ 1000
    → IsUnitTable (units_of segments) (units_by_segment 0 segments)
unit_table segments few = record {
  few = few;
  each = λ number.
      entry_is 0 0 segments number ∙ ap (λ m. position_from (nat_eq m) 0 (units_of segments)) (omega arith)
      ∙ sym (position_from-zero (nat_eq number) (units_of segments));
}

-- A text that begins with another.
-- a text is that of two parts exactly if it begins with the first, and the second is what follows
pub front_split : (title front rest : List ℕ) → bytes_eq title (front ++ rest)
    ≡ (starts_with nat_eq title front && bytes_eq (drop (length front) title) rest)
front_split title front rest =
    let starts = starts_is {A = ℕ} {E = nat_eq} Decides-eqb title front (starts_with nat_eq title front) refl in
    let tail : List ℕ = drop (length front) title in
    same_from_decides (bytes_eq title (front ++ rest)) (starts_with nat_eq title front && bytes_eq tail rest)
    (bytes_eq-Decides title (front ++ rest)) (
      λ h. let both = and_parts (starts_with nat_eq title front) (bytes_eq tail rest) h in
          starts.0 both.0 ∙ ap (λ end. front ++ end) ((bytes_eq-Decides tail rest).0 both.1),
      λ e. and_from (starts_with nat_eq title front) (bytes_eq tail rest) (starts.1 rest e)
          ((bytes_eq-Decides tail rest).1 (ap (λ text. drop (length front) text) e ∙ drop-append_seam front rest)),
    )
