-- Loops over items and references: what is done, and what the others give.
use Rattle.std.proofs.Common.{◌≡◌, ℕ, List, [], ◌∷◌, Option, Some, None, refl, suc, ◌+◌, ◌<◌, length, map, drop, get_or}
use Rattle.std.proofs.Common.{ap, sym, ◌∙◌, drop-cons, add-one, zero-add, arith, ◌++◌, append_assoc, zero, ◌≤◌}
use Rattle.std.proofs.lemmas.List.{get_or-map, length-map}
use Rattle.std.specs.List.{range_with_len}
use Rattle.std.proofs.lemmas.List.FromFn.{map-range_with_len_more}
use Rattle.m51_encode.specs.declared.outcome.OperandOutcome.{OperandOutcome}
use Rattle.m51_expr.specs.declared.operand.Item.{Item}
use Rattle.m51_expr.specs.Operand.{ItemTree, item_tree}
use Rattle.m51_module.specs.Validity.{field_len}
use Rattle.m51_module.proofs.FieldLengths.{some_byte}
use Rattle.m51_emit.specs.declared.counting.FixupCount.{FixupCount}
use Rattle.m51_emit.specs.Outcomes.{made_with, part_fault, made_with_all, or_next, leftmost_fault}
use Rattle.m51_emit.specs.Counting.{counted, counted_all}
use Rattle.m51_emit.specs.Content.{EmittedContent, ReferenceAt, nothing, later, followed_by}
use Rattle.m51_emit.specs.Within.{LieFrom, LieInside}

-- Parts that are counted one by one are those that are counted together.

or_next_assoc : (a b c : Option ℕ) → or_next (or_next a b) c ≡ or_next a (or_next b c)
or_next_assoc (Some n) b c = refl
or_next_assoc None b c = refl

-- a part and then the others
pub counted_first : (c : FixupCount) (part : OperandOutcome) (parts : List OperandOutcome)
    → counted_all (counted c part) parts ≡ counted_all c (part ∷ parts)
counted_first c part parts = λ i. record {
  made = made_with_all (made_with c.made part) parts;
  fault = or_next_assoc c.fault (part_fault c.made part) (leftmost_fault (made_with c.made part) parts) i;
}

pub or_nothing : (a : Option ℕ) → or_next a None ≡ a
or_nothing (Some n) = refl
or_nothing None = refl

pub counted_none : (c : FixupCount) → counted_all c [] ≡ c
counted_none c = λ i. record { made = c.made; fault = or_nothing c.fault i }

-- A loop over items: what is done, before what the others give.

later_by_none : (rs : List ReferenceAt) → map (later 0) rs ≡ rs
later_by_none [] = refl
later_by_none (r ∷ rs) = λ i. (zero-add r.0 i, r.1) ∷ later_by_none rs i

-- content after nothing
pub after_nothing : (c : EmittedContent) → followed_by nothing c ≡ c
after_nothing c = λ i. record { bytes = c.bytes; references = later_by_none c.references i }

-- the first of the items that are left
first_left : (items : List Item) (n : ℕ) (item : Item) → n < length items → item ≡ get_or items n item
    → drop n (map item_tree items) ≡ item_tree item ∷ drop (n + 1) (map item_tree items)
first_left items n item below is =
    let in_trees : n < length (map item_tree items) = omega (arith, length-map items item_tree, below) in
    rw (
      drop-cons (map item_tree items) n (item_tree item) in_trees,
      get_or-map item_tree items n item (item_tree item) below,
      ← is,
      add-one n,
    ) refl

-- one more item is done, and fewer are left
pub item_step : {S W : Type 0} (all : S → List ItemTree → W) (put : S → ItemTree → S)
    → ((s : S) (x : ItemTree) (xs : List ItemTree) → all (put s x) xs ≡ all s (x ∷ xs)) → (old new : S) (whole : W)
    (items : List Item) (n : ℕ) (item : Item) → n < length items → item ≡ get_or items n item
    → new ≡ put old (item_tree item) → all old (drop n (map item_tree items)) ≡ whole
    → all new (drop (n + 1) (map item_tree items)) ≡ whole
item_step all put moves old new whole items n item below is done so_far =
    ap (λ s. all s (drop (n + 1) (map item_tree items))) done ∙ (moves old (item_tree item) _
    ∙ (ap (all old) (sym (first_left items n item below is)) ∙ so_far))

-- Lists to which a loop pushes one item after another.

-- one more item, of the next number
pub numbered_more : {X : Type 0} (f : ℕ → X) (before now new : List X) (n : ℕ) (x : X) → new ≡ now ++ x ∷ [] → x ≡ f n
    → now ≡ before ++ map f (range_with_len 0 n) → new ≡ before ++ map f (range_with_len 0 (n + 1))
numbered_more f before now new n x pushed is so_far =
    rw (pushed, is, so_far, map-range_with_len_more f 0 n n (zero-add n)) (append_assoc before _ _)

-- References that lie in bytes, one by one.

-- references that lie between two bytes: the first is not after the second
ordered : (from to : ℕ) (rs : List ReferenceAt) → LieFrom from to rs → from ≤ to
ordered from to [] h = h
ordered from to (r ∷ rs) h = omega (arith, h.0, ordered (r.0 + field_len r.1.form) to rs h.1)

lies_before : (from to : ℕ) (rs : List ReferenceAt) (k : ℕ) (r : ReferenceAt) → LieFrom from to rs → k < length rs
    → (get_or rs k r).0 < to
lies_before from to [] k r h in_list = absurd (omega (arith, in_list))
lies_before from to (x ∷ rs) zero r h in_list =
    omega (arith, some_byte x.1.form, ordered (x.0 + field_len x.1.form) to rs h.1)
lies_before from to (x ∷ rs) (suc k) r h in_list = lies_before (x.0 + field_len x.1.form) to rs k r h.1 (omega arith)

-- the field of each reference begins in the bytes
pub lies_inside : (len : ℕ) (rs : List ReferenceAt) (k : ℕ) (r : ReferenceAt) → LieInside len rs → k < length rs
    → (get_or rs k r).0 < len
lies_inside len rs k r h in_list = lies_before 0 len rs k r h.lie in_list

-- it begins in memory where the bytes end there
pub begins_in_memory : (at len : ℕ) (rs : List ReferenceAt) (k : ℕ) (r : ReferenceAt) → at + len ≤ 65536
    → LieInside len rs → k < length rs → at + (get_or rs k r).0 < 65536
begins_in_memory at len rs k r fits h in_list = omega (arith, lies_inside len rs k r h in_list)
