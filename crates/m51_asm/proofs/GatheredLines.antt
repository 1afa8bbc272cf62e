-- Pass 2: what PUBLIC makes of names by what is kept, what a line gives, and what lines give to the segments of a
-- module are what the definitions say.
use Rattle.m51_asm.proofs
use Rattle.m51_asm.specs
use proofs.Common.{◌≡◌, ℕ, List, [], ◌∷◌, map, Option, Some, None, option_map, refl, ◌∙◌, Value, LineTree, arith}
use proofs.Common.{Assignment, first_definition, number_at, Valuation, Located, PublicSegment, names_at, segment_in}
use proofs.Common.{zero, suc, ◌++◌, drop, ◌<◌, slice_get, Meanings, Fault, Row, BodyTree, here_at, body_at, if_fault}
use proofs.Common.{IsGivenTo, EmittedContent, Contents, nothing_given, ◌≢◌, inl, inr, ◌+◌, ◌≤◌, ◌==◌, ◌-◌, Bool, cond}
use proofs.Common.{length, Result, ap, sym, get_or, eq-eqb, eqb-true, length-map, Fixup, Piece, Segment, with_line}
use proofs.Common.{nothing_gathered, gathered_before, IsText, slice_set, append-nil, LieInside, changed_element}
use Rattle.m51_emit.specs.Outcomes.{or_next, leftmost_fault, made_with, made_with_all}
use specs.declared.numbering.PlacedText.{PlacedText}
use specs.Definitions.{Definition, definition_of}
use specs.ObjectSegments.{segment_number, segment_of, final, Kept, object_segments, from_one, index_in, kept, number_in}
use specs.PlacedText.{IsAssignedText}
use specs.Publishing.{fault_among, definer_of, published_by, fault_of_public, publics_among}
use Rattle.m51_emit.specs.PublicNames.{Published, public_by, public_outcome}
use specs.PublicNames.{definer_by, numbered_as, counted_from, published, publics_of}
use proofs.BasedNames.{IfSomeBased, IsDeclaredBase, name_good}
use proofs.ToldLines.{names_of}
use proofs.KnownSegments.{segment_is, few_segments, ids, Ascend, AreKept, all_kept, room, known, index_is}
use specs.ContentFaults.{faults_from, line_outcomes_by, line_outcomes, made_before, content_fault}
use specs.AnswerRows.{rows_from, rows, place_of, listing_row}
use specs.ValuesAt.{IsSetAt}
use specs.Repeats.{publics_in}
use Rattle.std.proofs.Common.{append_assoc, below_more, OnOk}
use Rattle.m51_emit.specs.Content.{outcomes_by, content_by}
use specs.Pieces.{content_at, offset_at, pieces, fixups, runs_from, fixups_from}
use specs.Parts.{publics_by, publics_before}
use specs.Fitting.{last_set}
use Rattle.m51_emit.specs.Rows.{place_in, row_in}
use Rattle.std.proofs.lemmas.List.Folds.{flat_map-map}
use Rattle.m51_emit.specs.Gathering.{Gathered, run_of, runs_of, fixups_of, all_pieces, all_fixups}
use Rattle.m51_emit.specs.declared.gathering.ModuleContent.{ModuleContent}
use Rattle.m51_emit.proofs.GrownRuns.{gathered_grows}
use Rattle.m51_emit.proofs.LyingContent.{references_lie}
use specs.Gathering.{nothing_in, changed_at, placed_at, placed_before, gathered_in}
use Rattle.m51_cells.proofs.Members.{In, every_in, in_first, in_later}
use proofs.AnsweredLines.{moved}
use proofs.ContentFields.{given_at}
use proofs.GoodLines.{IsFreeText, free_where}
use proofs.ValidParts.{ends_by}
use Rattle.m51_cells.specs.declared.kind.Base.TheVariants as base

-- what defines a name, by its first definition
definer_is : (o : Option (ℕ × Definition)) → definer_of (option_map first_definition o) ≡ definer_by o
definer_is b = grind arith

module _ (lines : List LineTree) (a : Assignment) (t : PlacedText) (h : IsAssignedText lines a t)
    (numbers : List ℕ) (each : (id : ℕ) → number_at numbers id ≡ segment_number lines a id) where
  abbrev segments : ℕ → PublicSegment
  segments id = numbered_as (segment_of lines a id) (segment_number lines a id)

  abbrev kept_segments : ℕ → PublicSegment
  kept_segments id = numbered_as (segment_in t.end.now.segments.table id) (number_at numbers id)

  counted_is : (o : Option Value) → IfSomeBased (IsDeclaredBase lines a) o
      → counted_from kept_segments o ≡ counted_from segments o
  counted_is o based =
      let there = segment_is lines a h.fits t.end.now.segments.table h.placed.at.segments.table in
      grind (arith, there, each)

  -- what PUBLIC makes of a name
  pub published_is : (k : ℕ) (set : Valuation) (bank : ℕ) (here : Located ℕ)
      → names_at (names_of t set bank here numbers) ≡ final lines a k → (name : List ℕ)
      → published_by (names_of t set bank here numbers) name ≡ published lines a k name
  unfolding published final
  published_is k set bank here means name =
      (λ i. public_by name (definer_of (h.names name i)) (counted_from kept_segments ((means i).value name))
      ((means i).value name))
      ∙ λ i. public_by name (definer_is (definition_of lines name) i)
      (counted_is (a.value k name) (name_good lines a h.fits k name) i) (a.value k name)

module _ (lines : List LineTree) (a : Assignment) (k made : ℕ) where
  one_fault : (p : Published) (names : List (List ℕ))
      → fault_among (published lines a k) names
      ≡ leftmost_fault made (map (λ name. public_outcome (published lines a k name)) names)
      → or_next (fault_of_public p) (fault_among (published lines a k) names)
      ≡ leftmost_fault made (public_outcome p ∷ map (λ name. public_outcome (published lines a k name)) names)
  one_fault p names h = grind arith

  -- the first fault among the names of a PUBLIC
  pub publics_fault : (names : List (List ℕ))
      → fault_among (published lines a k) names
      ≡ leftmost_fault made (map (λ name. public_outcome (published lines a k name)) names)
  publics_fault [] = refl
  publics_fault (name ∷ names) = one_fault (published lines a k name) names (publics_fault names)

-- Pass 2 line by line: what is kept grows with a line as the definitions say.

-- the items from one on are that one and those after it
pub drop_at : {T : Type 0} (xs : List T) (k : ℕ) (x : T) → slice_get xs k ≡ Some x → drop k xs ≡ x ∷ drop (suc k) xs
drop_at [] k x e = absurd (cc e)
drop_at (y ∷ xs) zero x e = cc
drop_at (y ∷ xs) (suc k) x e = drop_at xs k x e

module _ (lines : List LineTree) (a : Assignment) (k made : ℕ) where
  public_made : (p : Published) → made_with made (public_outcome p) ≡ made
  public_made b = grind arith

  publics_made : (names : List (List ℕ))
      → made_with_all made (map (λ name. public_outcome (published lines a k name)) names) ≡ made
  publics_made [] = refl
  publics_made (name ∷ names) = cc (public_made (published lines a k name), publics_made names)

  made_is : (body : BodyTree) → made_with_all made (outcomes_by (final lines a k) (a.form k) body)
      ≡ made_with_all made (line_outcomes_by lines a k body)
  made_is body = grind (arith, publics_made)

  fault_is : (body : BodyTree)
      → or_next (leftmost_fault made (outcomes_by (final lines a k) (a.form k) body))
      (fault_among (published lines a k) (publics_in body))
      ≡ leftmost_fault made (line_outcomes_by lines a k body)
  fault_is body = grind (arith, publics_fault)

same_publics : (lines : List LineTree) (a : Assignment) (k : ℕ) (names : List (List ℕ))
    → publics_among (published lines a k) names ≡ publics_of lines a k names
same_publics lines a k [] = refl
same_publics lines a k (name ∷ names) = grind arith

publics_are : (lines : List LineTree) (a : Assignment) (k : ℕ) (body : BodyTree)
    → publics_among (published lines a k) (publics_in body) ≡ publics_by lines a k body
publics_are lines a k body = grind (arith, same_publics)

fault_before : (line : LineTree) (fault : Option ℕ) (more : List Fault)
    → if_fault line fault [] ++ more ≡ if_fault line fault more
fault_before line b more = grind arith

-- what a line gives by its names is its content
pub content_is : (lines : List LineTree) (a : Assignment) (k : ℕ) (line : LineTree) → slice_get lines k ≡ Some line
    → (names : Meanings) → names ≡ final lines a k → (c : EmittedContent)
    → c ≡ content_by names (a.form k) line.stmt.body → c ≡ content_at lines a k
unfolding content_at
content_is lines a k line is names same c e = cc

-- where there is no fault after a line, there was none before it, and the line has none
pub unfaulted : (line : LineTree) (fault : Option ℕ) (before : List Fault) → before ++ if_fault line fault [] ≡ []
    → (before ≡ []) × (fault ≡ None)
unfaulted line b [] e = grind arith
unfaulted line fault (x ∷ xs) e = absurd (cc e)

module _ (lines : List LineTree) (a : Assignment) (k : ℕ) (line : LineTree) (is : slice_get lines k ≡ Some line)
    (before after : Contents)
    (h : IsGivenTo lines a k before) (names : Meanings) (same : names ≡ final lines a k)
    (of : List ℕ → Published) (publish : of ≡ published lines a k) where
  -- the fault of the line
  abbrev fault : Option ℕ
  fault = or_next (leftmost_fault before.made (outcomes_by names (a.form k) line.stmt.body))
      (fault_among of (publics_in line.stmt.body))

  pub next_given : (row : Row) (c : EmittedContent) → IsSetAt lines a (suc k) after.set
      → after.made ≡ made_with_all before.made (outcomes_by names (a.form k) line.stmt.body)
      → after.publics ≡ before.publics ++ publics_among of (publics_in line.stmt.body)
      → after.faults ≡ before.faults ++ if_fault line fault []
      → after.rows ≡ before.rows ++ row ∷ [] → row ≡ listing_row line (place_of a k line) c
      → c ≡ content_by names (a.form k) line.stmt.body → IsGivenTo lines a (suc k) after
  unfolding made_before line_outcomes content_fault publics_before
  next_given row c sets made publics faults rows row_is content =
      let here : fault ≡ content_fault lines a k = cc (fault_is lines a k (made_before lines a k) (body_at lines k)) in
      let of_line = content_is lines a k line is names same c content in
      let below = faults_from (content_fault lines a) (suc k) (drop (suc k) lines) in
      record {
        sets = sets;
        made = cc (made_is lines a k (made_before lines a k) (body_at lines k));
        publics = cc (publics_are lines a k (body_at lines k));
        faults = cc (
          here,
          append_assoc before.faults (if_fault line (content_fault lines a k) []) below,
          fault_before line (content_fault lines a k) below,
          drop_at lines k line is,
          h.faults,
        );
        rows = cc (
          of_line,
          append_assoc before.rows (row ∷ []) (rows_from lines a (suc k) (drop (suc k) lines)),
          drop_at lines k line is,
          h.rows,
        );
        clean = λ none. grind (arith, unfaulted, below_more, here);
      }

-- the row of a line, by the number of its place
pub row_is : (a : Assignment) (k : ℕ) (line : LineTree) (c : EmittedContent) (number : ℕ)
    → number ≡ (here_at a k).number
    → row_in line.file line.line (place_in line.stmt number) c ≡ listing_row line (place_of a k line) c
row_is a k line c number is = grind arith

-- before the first line
pub first_given : (lines : List LineTree) (a : Assignment) → IsGivenTo lines a 0 nothing_given
unfolding last_set made_before publics_before
first_given lines a = record {
  sets = λ name. refl;
  made = refl;
  publics = refl;
  faults = refl;
  rows = refl;
  clean = λ e j below. absurd (omega (arith, below));
}

-- What lines give to the segments of a module: line by line it grows to the pieces and fixups of the definitions.

-- a write to an element is a change of it
written : {A : Type 0} (change : A → A) (xs : List A) (i : ℕ) (d : A) → i < length xs
    → slice_set xs i (change (get_or xs i d)) ≡ changed_at change i xs
written change [] i d h = grind arith
written change (x ∷ xs) zero d h = refl
written change (x ∷ xs) (suc i) d h = cc (written change xs i d (omega (arith, h)))

-- past the end there is nothing to change
nothing_changed : {A : Type 0} (change : A → A) (xs : List A) (i : ℕ) → length xs ≤ i → changed_at change i xs ≡ xs
nothing_changed change [] i h = refl
nothing_changed change (x ∷ xs) zero h = grind arith
nothing_changed change (x ∷ xs) (suc i) h = cc (nothing_changed change xs i (omega (arith, h)))

pub on_ok : {T E : Type 0} (r : Result T E) (P Q : Type 0) → (P → Q) → OnOk r P → OnOk r Q
on_ok b c d f h = grind arith

-- the element of this number is changed, where the change goes well
pub added : {A T E : Type 0} (r : Result T E) (change : A → A) (xs : List A) (n number : ℕ) (x new : A) → n ≡ number
    → number ≢ 0 → get_or xs (n - 1) x ≡ x
    → n - 1 < length xs → OnOk r (new ≡ change x) → OnOk r (slice_set xs (n - 1) new ≡ changed_element change number xs)
added r change xs n b x new same some is below h = grind (arith, on_ok, written)

-- no element has this number
pub not_there : {A : Type 0} (change : A → A) (xs : List A) (n number : ℕ) → n ≡ number → number ≢ 0 → length xs ≤ n - 1
    → xs ≡ changed_element change number xs
not_there change xs n b same some past = grind (arith, nothing_changed)

module _ (F G : Kept → Gathered) (change : Gathered → Gathered) (id : ℕ)
    (same : (s : Kept) → s.id ≡ id → change (F s) ≡ G s)
    (other : (s : Kept) → s.id ≢ id → F s ≡ G s) where
  others : (xs : List Kept) → ((s : Kept) → In s xs → s.id ≢ id) → map F xs ≡ map G xs
  others [] ne = refl
  others (x ∷ xs) ne = λ i. other x (ne x (in_first x xs)) i ∷ others xs (λ s j. ne s (in_later s x xs j)) i

  -- a change further on
  changed_later : (x : Gathered) (ys : List Gathered) (o : Option ℕ)
      → changed_element change (from_one (option_map (λ n. suc n) o)) (x ∷ ys)
      ≡ x ∷ changed_element change (from_one o) ys
  changed_later x ys b = grind arith

  changed_by : (x : Kept) (xs : List Kept) (b : Bool) → (x.id == id) ≡ b → ((s : Kept) → In s xs → x.id < s.id)
      → changed_element change (from_one (index_in (ids xs) id)) (map F xs) ≡ map G xs
      → changed_element change (from_one (cond b (Some 0) (option_map (λ n. suc n) (index_in (ids xs) id))))
      (F x ∷ map F xs)
      ≡ G x ∷ map G xs
  changed_by x xs b test less go = grind (arith, eqb-true, others, changed_later, ids, eq-eqb)

  -- a change of the segment of one id, by its number
  changed_is : (xs : List Kept) → Ascend xs → changed_element change (from_one (index_in (ids xs) id)) (map F xs)
      ≡ map G xs
  changed_is [] order = refl
  changed_is (x ∷ xs) order = changed_by x xs (x.id == id) refl (λ s i. every_in (λ t. x.id < t.id) xs s order.0 i)
      (changed_is xs order.1)

-- an item that is put between two lists, or not
between : {A : Type 0} (b : Bool) (xs ys : List A) (x : A)
    → xs ++ cond b (x ∷ ys) ys ≡ cond b (xs ++ x ∷ []) xs ++ ys
between b xs ys x = grind (arith, append_assoc)

none_more : (n : ℕ) → n ≡ n + 0
none_more n = omega arith

none_before : (n : ℕ) → 0 + n ≡ n
none_before n = omega arith

module _ (lines : List LineTree) (a : Assignment) where
  -- what these lines, from line k on, give to a segment
  abbrev placed_from : ℕ → ℕ → List LineTree → List (ℕ × EmittedContent)
  placed_from id k [] = []
  placed_from id k (line ∷ more) =
      cond ((a.segment k).id == id) (placed_at lines a k ∷ placed_from id (suc k) more) (placed_from id (suc k) more)

  -- what is given before, with what these lines give, is what all of them give
  before_and : (id k : ℕ) (ls : List LineTree)
      → placed_before lines a id k ++ placed_from id k ls ≡ placed_before lines a id (k + length ls)
  unfolding placed_before
  before_and id k [] = cc (append-nil (placed_before lines a id k), none_more k)
  before_and id k (line ∷ ls) =
      grind (arith, between, before_and id (suc k) ls, moved k (length ls))

  all_placed : (id : ℕ) → placed_before lines a id (length lines) ≡ placed_from id 0 lines
  unfolding placed_before
  all_placed id = cc (before_and id 0 lines, none_before (length lines))

  runs_are : (id k : ℕ) (ls : List LineTree) → runs_of (map run_of (placed_from id k ls)) ≡ runs_from lines a id k ls
  runs_are id k [] = refl
  runs_are id k (line ∷ ls) = grind (arith, runs_are id (suc k) ls)

  fixups_are : (s : Kept) (k : ℕ) (ls : List LineTree)
      → fixups_of (object_segments lines a) (segment_number lines a s.id) (placed_from s.id k ls)
      ≡ fixups_from lines a s k ls
  fixups_are s k [] = refl
  fixups_are s k (line ∷ ls) = grind (arith, fixups_are s (suc k) ls)

  pieces_are : all_pieces (gathered_before lines a (length lines)) ≡ pieces lines a
  pieces_are = grind (arith, flat_map-map, all_placed, runs_are)

  fixups_all : all_fixups (gathered_before lines a (length lines)) ≡ fixups lines a
  fixups_all = grind (arith, flat_map-map, all_placed, fixups_are)

  abbrev content_of : List Piece → List Fixup → ModuleContent
  content_of pieces fixups = record { pieces = pieces; fixups = fixups }

  -- what is gathered of all lines is the content of the module
  pub whole : (gathered : List Gathered) → gathered ≡ gathered_before lines a (length lines)
      → content_of (all_pieces gathered) (all_fixups gathered) ≡ content_of (pieces lines a) (fixups lines a)
  whole gathered e = cc (e, pieces_are, fixups_all)

  -- the segment of line k with that line added
  here_grows : (k : ℕ) (s : Kept) → s.id ≡ (a.segment k).id
      → with_line (object_segments lines a) (gathered_in lines a k s) (placed_at lines a k)
      ≡ gathered_in lines a (suc k) s
  unfolding placed_before
  here_grows k s e =
      grind (arith, gathered_grows, eq-eqb (a.segment k).id s.id (sym e))

  -- any other stays
  there_stays : (k : ℕ) (s : Kept) → s.id ≢ (a.segment k).id → gathered_in lines a k s ≡ gathered_in lines a (suc k) s
  unfolding placed_before
  there_stays k s ne = grind arith

-- the fields of a line lie in its bytes
pub line_lies : (lines : List LineTree) (a : Assignment) (k : ℕ)
    → LieInside (length (content_at lines a k).bytes) (content_at lines a k).references
unfolding content_at
line_lies lines a k = grind (arith, references_lie)

-- this number of segments from a number on, to which no line has given anything
abbrev nothing_from : ℕ → ℕ → List Gathered
nothing_from n zero = []
nothing_from n (suc m) = nothing_in (suc n) ∷ nothing_from (suc n) m

nothing_and : (n m : ℕ) → nothing_gathered n ++ nothing_from n m ≡ nothing_gathered (n + m)
nothing_and n zero = cc (append-nil (nothing_gathered n), none_more n)
nothing_and n (suc m) =
    grind (arith, append_assoc, nothing_and (suc n) m, moved n m)

nothing_by : (f : Kept → ℕ) (n : ℕ) (xs : List Kept)
    → ((j : ℕ) (s : Kept) → slice_get xs j ≡ Some s → f s ≡ suc (n + j))
    → nothing_from n (length xs) ≡ map (λ s. nothing_in (f s)) xs
nothing_by f n [] h = refl
nothing_by f n (x ∷ xs) h =
    cc (h 0 x refl, none_more n, nothing_by f (suc n) xs (λ j s e. h (suc j) s e ∙ ap (λ m. suc m) (sym (moved n j))))

module _ (lines : List LineTree) (a : Assignment) (f : IsFreeText lines a) where
  order : Ascend (kept lines a)
  order = let all : AreKept lines a f (suc (length lines)) (kept lines a) = all_kept lines a f in all.order

  -- the same of a place and content that are those of line k: what it gives ends in memory
  pub given_fits : (k at : ℕ) (x : EmittedContent) → k < length lines → content_fault lines a k ≡ None
      → at ≡ offset_at lines a k → x ≡ content_at lines a k → at + length x.bytes ≤ 65536
  given_fits k at x below none placed given =
      let s = a.segment k in
      let len = ap (λ (y : EmittedContent). length y.bytes) given in
      let end = ends_by lines a k s.id (eq-eqb _ _ refl) (given_at lines a f k below none).within in
      elim (room lines a f (suc k) (omega (arith, below)) s (known lines a f.fits k).same) [
        | inl none ↦ omega (arith, end, none, placed, len)
        | inr r ↦ let most = r.most in omega (arith, end, most, placed, len)
      ]

  -- before the first line
  gathered_first : nothing_gathered (length (kept lines a)) ≡ gathered_before lines a 0
  unfolding number_in placed_before
  gathered_first =
      let xs = kept lines a in cc (
        nothing_and 0 (length xs),
        none_before (length xs),
        nothing_by (λ s. segment_number
            lines a s.id) 0 xs (λ j s e. ap from_one (index_is xs order j s e) ∙ ap (λ n. suc n) (sym (none_before j))),
      )

  -- what is gathered grows with what is added of a line
  pub next_gathered : (k number at : ℕ) (content : EmittedContent) (segments : List Segment) (old new : List Gathered)
      → segments ≡ object_segments lines a
      → number ≡ segment_number lines a (a.segment k).id → at ≡ offset_at lines a k → content ≡ content_at lines a k
      → old ≡ gathered_before lines a k
      → new ≡ changed_element (λ g. with_line segments g (at, content)) number old → new
      ≡ gathered_before lines a (suc k)
  unfolding number_in
  next_gathered k number at content segments old new same numbered placed given before e =
      grind (arith, changed_is, here_grows, there_stays, order)

  count_is : (segments : List Segment) → segments ≡ object_segments lines a → length segments ≡ length (kept lines a)
  count_is segments e = cc (length-map (kept lines a) (λ (k : Kept). k.segment))

  -- the segments of the module are not too many
  pub segments_few : (segments : List Segment) → segments ≡ object_segments lines a → length segments ≤ 254
  segments_few segments e = omega (arith, few_segments lines a f, count_is segments e)

  pub first_gathered : (segments : List Segment) → segments ≡ object_segments lines a
      → nothing_gathered (length segments) ≡ gathered_before lines a 0
  first_gathered segments e = cc (count_is segments e, gathered_first)

-- no line of a text that is placed has a fault by the lines above it
pub placed_text : (lines : List LineTree) (a : Assignment) (t : PlacedText) → IsText lines → IsAssignedText lines a t
    → IsFreeText lines a
placed_text lines a t text ready = grind (arith, free_where)
