-- What follows for a line from the state after the lines above it is what the definitions say of it: the segment that
-- it leaves open, the banks that lines select, and what names mean, by the whole text and over the module's segments.
use Rattle.m51_asm.proofs
use Rattle.m51_asm.specs
use proofs.Common.{◌≡◌, ℕ, suc, ◌||◌, Bool, List, refl, ap, ◌∙◌, Meanings, BodyTree, LineTree, Assignment, body_at}
use proofs.Common.{arith, is_some, nat_lt, true, false, cond, Option, Some, None, ◌+◌, option_map, Kind, TextSegment}
use proofs.Common.{first_definition, Value, ◌%◌, sym, slice_get, Whole, Located, body_of, here_at, Fits, Table}
use proofs.Common.{first_in, Jump, located_value, size_in, here_of, [], ◌∷◌, ◌++◌, length, list_any, or_parts, take_all}
use proofs.Common.{bytes_eq-Decides, Tree, LinePlace, Valuation, value_in, IsPlaceOf, number_at, SegmentEntry}
use proofs.Common.{current_in, segment_in, kept_meanings, with_label, names_at, value_of, is_absolute, slice_get_within}
use proofs.Common.{◌<◌, length-append, AreFree, IsFirstFault, ArePlaces, IsPassedTo, leb-false, leb-true, ◌-◌, ◌≤◌}
use proofs.Common.{◌==◌, min, map, ltb-false, Giving, is_misplaced, brief, text_segment, ◌^◌}
use specs.Fitting.{mod51, form_by, set_by, named_value, bank_before, last_absolute, declared, declared_by}
use specs.Fitting.{segment_behind, size_at, filled, last_set, undefined_value, externals_before}
use specs.Definitions.{Definition, SegmentOf, Defined, Label, SetOf, externals_from, defined_by, label_defined}
use specs.Definitions.{found_in, definition_of, definitions_in}
use specs.PlacedFaults.{operand_fault, placed_fault, kind_end, is_past, is_numbered_by, segments_before, is_too_many}
use specs.declared.placing.PassOneState.{PassOneState}
use specs.GivenValues.{expression_given, given_or}
use specs.Placing.{IsAt, AreLineFacts, IsTableOf, AreFactsFrom, AreSegmentsAt, IsCounted, AreCounts, AreSmall}
use specs.Placing.{numbers_one, exceeds_end, are_too_many, fault_by}
use specs.Repeats.{is_set, is_repeated, IsFirstRepeat}
use specs.ValuesAbove.{defined_value, value_above}
use specs.ValuesAt.{IsSetAt, value_by_first, value_at, if_put, PutsIf, set_in, IsKnownAt}
use specs.declared.numbering.PlacedText.{PlacedText}
use specs.PlacedText.{IsAssignedText}
use specs.ObjectSegments.{segment_number, final}
use specs.Assignment.{above, value_or_none, is_bitaddressable}
use specs.Parts.{is_selected}
use specs.Banks.{selects}
use specs.LineFaults.{operand_fault_by}
use specs.OpenSegments.{declared_first, open_behind, named_by, last_in, last_with, last_id}
use specs.SegmentTable.{HasDeclared, saturated, with_entry}
use proofs.KnownSegments.{declares, current_is, latest_is, more_segments}
use specs.declared.line_facts.LineFacts.{LineFacts}
use specs.Operands.{evaluated_fault, given_in, bank_in}
use proofs.DefinedLines.{means, form_told, grown, given}
use specs.declared.names_at.NamesAt.{NamesAt}
use Rattle.m51_cells.specs.declared.fault.TheConstants.{DEFINED_TWICE}
use specs.Passing.{is_reached}
use specs.declared.counts.Counts.{Counts}
use proofs.GoodLines.{IsFaultFree, test_none}
use Rattle.m51_cells.specs.declared.kind.Base.TheVariants as base
use Rattle.m51_cells.specs.declared.kind.Kind.TheVariants as kind

-- whether a bank is selected, with one more line
pub selected_more : (lines : List LineTree) (a : Assignment) (k bank after : ℕ) (body : BodyTree) (before : Bool)
    → before ≡ is_selected lines a bank k → after ≡ bank_before lines a (suc k) → body ≡ body_at lines k
    → (before || selects after bank body) ≡ is_selected lines a bank (suc k)
unfolding is_selected bank_before
selected_more lines a k bank after body before h selected is = grind arith

-- the segment that a line leaves open
pub behind : (lines : List LineTree) (a : Assignment) (k : ℕ)
    → open_behind k (above lines a k) (λ kind. last_absolute a.segment kind k)
    (named_by (λ name. declared lines name k) (body_at lines k)) (a.segment k) (body_at lines k)
    ≡ segment_behind lines a k
unfolding segment_behind
behind lines a k = grind arith

module _ (lines : List LineTree) (segments : List SegmentEntry) (h : HasDeclared lines segments) (name : List ℕ) where
  told_by : (k : ℕ) (o : Option (ℕ × Definition)) → definition_of lines name ≡ o
      → option_map (segment_in segments) (declared_first k (option_map first_definition o)) ≡ declared_by lines k o
  told_by k None is = refl
  told_by k (Some (line, SegmentOf kind)) is =
      let d = declares name kind lines line is in
      let there = h line d.name kind d.type d.overlayable d.is in grind (arith, there)
  told_by k (Some (line, definition)) is = grind arith

  -- the segment that a name of RSEG names
  pub told : (k : ℕ)
      → option_map (segment_in segments) (declared_first k (option_map first_definition (definition_of lines name)))
      ≡ declared lines name k
  told k = told_by k (definition_of lines name) refl

-- the fault of an operand, by the segment that RSEG names
pub operand_told : (lines : List LineTree) (names : Meanings) (k : ℕ) (body : BodyTree)
    → operand_fault_by names (is_some (named_by (λ name. declared lines name k) body)) body
    ≡ operand_fault lines names k body
operand_told lines names k body = grind arith

-- the place of a line, from its segment and the size of that above it
pub place_from : {lines : List LineTree} {a : Assignment} → Fits lines a → (k : ℕ) (s : TextSegment) (before : ℕ)
    → s ≡ a.segment k → before ≡ filled lines a (a.segment k).id k → here_of s before ≡ here_at a k
place_from {a = a} f k s before p q = (λ i. here_of (p i) (q i)) ∙ λ i. record {
  number = sym (f.places k) i % 65536;
  class = (a.segment k).kind;
  base = base.Segment (a.segment k).id;
  part = Whole;
}

map_named : (f : ℕ → TextSegment) (declared : List ℕ → Option ℕ) (body : BodyTree)
    → option_map f (named_by declared body) ≡ named_by (λ name. option_map f (declared name)) body
map_named f declared body = grind arith

module _ (lines : List LineTree) (a : Assignment) (f : Fits lines a) (k : ℕ) (s : PassOneState) (at : IsAt lines a k s)
  where
    -- what names mean at a line
    pub names_are : (table : Table) → IsTableOf lines table → (predefines : Bool) → predefines ≡ mod51 lines
        → (here : Located ℕ)
        → located_value here ≡ here_of (current_in s.segments) (size_in s.segments.table s.segments.current)
        → kept_meanings s.segments.table table s.values s.values predefines s.bank here ≡ above lines a k
    names_are table names predefines p here h =
        means lines a f k s.segments.table table s.values predefines s.bank here (record {
          types = at.segments.table.types;
          names = names;
          known = at.known;
          predefined = p;
          selected = at.selected;
          place = h ∙ place_from f k _ _ (current_is lines a f k s.segments at.segments)
              (at.segments.table.sizes s.segments.current ∙ ap (λ id. filled lines a id k) at.segments.current);
        })

    -- what follows for a line from the state above it
    pub told_line : (line : LineTree) → slice_get lines k ≡ Some line → is_repeated lines k ≡ false
        → (table : Table) → IsTableOf lines table → (m : Meanings) → m ≡ above lines a k
        → (named : Option ℕ)
        → named ≡ named_by (λ name. declared_first k (first_in table name)) line.stmt.body
        → (form : Jump) → form ≡ form_by (with_label m line.stmt.label) line.stmt.body
        → (t : LineFacts)
        → AreFactsFrom k m form (last_in s.segments) (option_map (segment_in s.segments.table) named)
        (current_in s.segments)
        line.stmt.body t
        → AreLineFacts lines a k t
    unfolding above size_at
    told_line line is once table names m same named found form formed t follows =
        let body : line.stmt.body ≡ body_at lines k = ap body_of (sym is) in
        let first = λ (name : List ℕ).
        ap (λ o. option_map (segment_in s.segments.table) (declared_first k o)) (names name)
        ∙ told lines s.segments.table at.segments.table.declared name k in
        let the_named = ap (option_map (segment_in s.segments.table)) found
        ∙ map_named (segment_in s.segments.table) (λ name. declared_first k (first_in table name)) line.stmt.body
        ∙ (λ i. named_by (λ name. first name i) (body i)) in
        let h : AreFactsFrom k (above lines a k) (a.form k) (λ kind. last_absolute a.segment kind k)
        (named_by (λ name. declared lines name k) (body_at lines k)) (a.segment k) (body_at lines k) t =
        coe 0 1 (i. AreFactsFrom k (same i)
        ((formed ∙ ap (λ n. form_by (with_label n line.stmt.label) line.stmt.body) same
        ∙ form_told lines a f k line is once) i)
        (λ kind. latest_is lines a f k s.segments at.segments kind i)
        (the_named i)
        (current_is lines a f k s.segments at.segments i) (body i) t) follows in
        record {
          here = h.here;
          row = h.row;
          size = h.size;
          next = h.next ∙ behind lines a k ∙ sym (f.segments k);
          operand = rw (← operand_told lines (above lines a k) k (body_at lines k)) h.operand;
        }

-- what all lines give to a name is what its definition in the text gives
defined_in_all : (lines : List LineTree) (a : Assignment) (name : List ℕ)
    → value_above lines a (length lines) name ≡ defined_value lines a (length lines) name (definition_of lines name)
unfolding value_above
defined_in_all lines a name = cc (take_all (length lines) lines (omega arith))

-- a name that SET does not define has one value, and one that it does the last of them
by_definition : (lines : List LineTree) (a : Assignment) (k n : ℕ) (name : List ℕ) (o : Option (ℕ × Definition))
    → value_by_first (undefined_value lines a k name) (last_set lines a name k) (defined_value lines a n name o)
    (option_map first_definition o)
    ≡ named_value lines a k name o
by_definition lines a k n name b = grind arith

-- at a line each name has the value that the assignment gives it
pub value_is : (lines : List LineTree) (a : Assignment) → Fits lines a
    → (k : ℕ) (table : Table) (kept set : Valuation) (predefines : Bool) (bank : ℕ)
    → IsKnownAt lines a k table kept set predefines bank → (name : List ℕ)
    → value_at table kept set predefines bank name ≡ a.value k name
unfolding undefined_value
value_is lines a f k table kept set predefines bank h name =
    grind (arith, defined_in_all, by_definition, h.sets name, h.values name, h.names name, f.values k name)

-- what the definitions of a line give by SET
module _ (names : Meanings) (last : Option Value) (name : List ℕ) (given kept : Option (Located ℕ))
    (was : option_map located_value kept ≡ last) where
  -- definitions that are none by SET keep what was given
  keep : (ds : List Defined) → list_any (λ d. is_set d.1) ds ≡ false → set_by names last (found_in ds name) ≡ last
  keep [] h = refl
  keep (d ∷ ds) h = grind (arith, or_parts, keep ds)

  unset : (number : ℕ) (es : List (List ℕ × Kind)) → list_any (λ d. is_set d.1) (externals_from number es) ≡ false
  unset number [] = refl
  unset number (e ∷ es) = unset (suc number) es

  passed : (label : Option (List ℕ)) (ds : List Defined) → list_any (λ d. is_set d.1) ds ≡ false
      → option_map located_value kept ≡ set_by names last (found_in (label_defined label ++ ds) name)
  passed b ds h = grind (arith, keep)

  -- the label is this name, SET defines this name, and the label is the name that SET defines
  put_labelled : (b c d : Bool) (e : Tree) → option_map located_value given ≡ value_or_none (value_of names e)
      → (c ≡ true → d ≡ b)
      → option_map located_value (cond d kept (cond c given kept))
      ≡ set_by names last (cond b (Some Label) (cond c (Some (SetOf e)) None))
  put_labelled b c d e h same = grind arith

  put_line : (label : Option (List ℕ)) (body : BodyTree) → option_map located_value given ≡ expression_given names body
      → option_map located_value (if_put (set_in label body) given name kept)
      ≡ set_by names last (found_in (label_defined label ++ defined_by body) name)
  put_line label body h = grind (arith, put_labelled, bytes_eq-Decides, passed, unset)

-- after a line there is what its SET gave
pub set_next : (lines : List LineTree) (a : Assignment) (k : ℕ) (line : LineTree) (p : LinePlace) (old new : Valuation)
    → slice_get lines k ≡ Some line
    → IsPlaceOf lines a k p → IsSetAt lines a k old → PutsIf old new (set_in line.stmt.label line.stmt.body) p.given
    → IsSetAt lines a (suc k) new
unfolding last_set
set_next lines a k line p old new is place before puts name =
    let put = put_line (above lines a k) (last_set lines a name k) name p.given (value_in old name) (before name)
    line.stmt.label line.stmt.body (place.given ∙ ap (λ l. expression_given (above lines a k) (body_of l)) is) in
    cc (puts name, put)

-- the place of a line that is placed
pub place_is : (lines : List LineTree) (a : Assignment) (k : ℕ) (line : LineTree) → slice_get lines k ≡ Some line
    → (t : PlacedText) → IsAssignedText lines a t → (p : LinePlace) → IsPlaceOf lines a k p
    → here_of (segment_in t.end.now.segments.table p.segment) p.offset ≡ here_at a k
place_is lines a k line is t h p place = grind (arith, slice_get_within)

-- the names at a line of a text whose lines are placed; where the references point does not matter
abbrev pub names_of : PlacedText → Valuation → ℕ → Located ℕ → List ℕ → NamesAt
names_of t set bank here numbers = record {
  text = t.text;
  segments = record { ref_ptr = (0, 0); now = t.end.now.segments.table };
  kept = record { ref_ptr = (0, 0); now = t.end.now.values };
  set = record { ref_ptr = (0, 0); now = set };
  bank = bank;
  here = here;
  numbers = record { ref_ptr = (0, 0); now = numbers };
  label = None;
}

-- by the state at a line, what names mean there
pub names_mean : (lines : List LineTree) (a : Assignment) (k : ℕ) (t : PlacedText) → IsAssignedText lines a t
    → (set : Valuation) → IsSetAt lines a k set
    → (p : LinePlace) → IsPlaceOf lines a k p → (here : Located ℕ) → located_value here ≡ here_at a k
    → (numbers : List ℕ) → ((id : ℕ) → number_at numbers id ≡ segment_number lines a id)
    → names_at (names_of t set p.bank here numbers) ≡ final lines a k
unfolding final
names_mean lines a k t h set sets p stands here at numbers each =
    λ i. record {
      value = λ name. value name i;
      here = at i;
      fixed = λ id. is_absolute (h.placed.at.segments.table.types id i);
      bitaddressable = λ id. is_bitaddressable (h.placed.at.segments.table.types id i);
      number = λ id. each id i;
    }
  where
    value : (name : List ℕ)
        → value_at t.text.names.now t.end.now.values set t.text.mod51 p.bank name ≡ a.value k name
    value = grind (arith, value_is)

-- Pass 1 line by line: where it stops, and how one more line is passed.

repeat_is_fault : (lines : List LineTree) (a : Assignment) (k : ℕ) → is_repeated lines k ≡ true
    → placed_fault lines a k ≡ Some DEFINED_TWICE
unfolding placed_fault
repeat_is_fault lines a k h = rw h refl

-- a line above the first one that repeats does not
pub not_reached : (lines : List LineTree) (repeated : Option ℕ) (k : ℕ) → IsFirstRepeat lines repeated
    → k < length lines → is_reached repeated k ≡ false → is_repeated lines k ≡ false
not_reached lines None k h b e = h k b
not_reached lines (Some first) k h b e = h.1 k (leb-false first k e)

-- where no line above has a fault, a line that is not above the first one that repeats is that one
pub reached : (lines : List LineTree) (a : Assignment) (repeated : Option ℕ) (k : ℕ) → IsFirstRepeat lines repeated
    → AreFree lines a k
    → is_reached repeated k ≡ true → IsFirstFault lines a k DEFINED_TWICE
reached lines a None k h free e = absurd (cc e)
reached lines a (Some first) k h free e =
    let not_below : first < k → ⊥ = λ b. cc (repeat_is_fault lines a first h.0.1, free first b) in
    let same : first ≡ k = omega (arith, leb-true first k e, not_below) in
    record {
      within = rw (← same) h.0.0;
      found = repeat_is_fault lines a k (rw (← same) h.0.1);
      earlier = free;
    }

-- what holds of each item of a list, and of one more
pub pushed_each : {T : Type 0} (P : ℕ → T → Type 0) (xs : List T) (y : T)
    → ((j : ℕ) (x : T) → slice_get xs j ≡ Some x → P j x)
    → P (length xs) y → (j : ℕ) (x : T) → slice_get (xs ++ y ∷ []) j ≡ Some x → P j x
pushed_each P (z ∷ xs) y h here (suc j) x e = pushed_each (λ j. P (suc j)) xs y (λ j x e. h (suc j) x e) here j x e
pushed_each P xs y h here j x e = grind arith

-- no line is placed yet
pub no_places : (lines : List LineTree) (a : Assignment) → ArePlaces lines a []
no_places lines a b p e = grind arith

-- one more line is passed
pub passed_more : (lines : List LineTree) (a : Assignment) (k : ℕ) (places more : List LinePlace) (p : LinePlace)
    (before end : PassOneState)
    → IsPassedTo lines a k places before → more ≡ places ++ p ∷ [] → placed_fault lines a k ≡ None
    → IsAt lines a (suc k) end
    → IsPlaceOf lines a k p → IsPassedTo lines a (suc k) more end
passed_more lines a k places more p before end h e free at place = record {
  free = grind arith;
  counted = ap length e ∙ omega (arith, length-append places (p ∷ []), h.counted);
  each = rw e (pushed_each (IsPlaceOf lines a) places p h.each (rw h.counted place));
  at = at;
}

-- What is kept grows with a line as the definitions say, and the fault of the line follows from what is counted.

-- a size past 64 bits is over each limit, as the exact one is
small_sum : (a n most : ℕ) → min (a + min n most) most ≡ min (a + n) most
small_sum a n most = omega arith

small_zero : (n most : ℕ) → 0 < most → (min n most == 0) ≡ (n == 0)
small_zero n most h = grind (arith, h)

small_over : (limit n most : ℕ) → limit < most → nat_lt limit (min n most) ≡ nat_lt limit n
small_over limit n most h = grind (arith, h)

small_end : (limit base n most : ℕ) → limit < most → nat_lt limit (base + min n most) ≡ nat_lt limit (base + n)
small_end limit base n most h = grind (arith, h)

small_is : (n most : ℕ) → most < 2 ^ 64 - 1 → saturated n ≤ most → saturated n ≡ n
small_is n most h less = omega (arith, h, less)

given_sum : (b : Bool) (before n : ℕ) → saturated (before + cond b (saturated n) 0) ≡ saturated (before + cond b n 0)
given_sum b before n = grind (arith, small_sum)

end_most : (k : Kind) → kind_end k ≤ 65536
end_most k = grind arith

passes_same : (s : TextSegment) (n : ℕ) → exceeds_end s (saturated n) ≡ exceeds_end s n
passes_same s n =
    let less : kind_end s.kind < 2 ^ 64 - 1 = omega (arith, end_most s.kind) in
    λ i. small_end (kind_end s.kind) s.base n (2 ^ 64 - 1) less i || small_over 65535 n (2 ^ 64 - 1) (omega arith) i

numbers_same : (lines : List LineTree) (a : Assignment) (k : ℕ) (body : BodyTree)
    → numbers_one (a.segment k) (filled lines a (a.segment k).id k) (saturated (size_at lines a k)) body
    ≡ is_numbered_by lines a k body
numbers_same lines a k body = grind (arith, small_zero (size_at lines a k) (2 ^ 64 - 1))

-- the counts after a line without a fault are within their limits
pub small_counts : (s : TextSegment) (c : Counts) (misplaced : Bool) (operand : Option ℕ)
    → fault_by (exceeds_end s c.next) misplaced (are_too_many c.segments c.externals) operand ≡ None → AreSmall c
small_counts s c misplaced operand h = grind (arith, test_none, or_parts, ltb-false)

-- the externals of a line that are not too many by their count are not too many
pub small_sum_is : (above here counted : ℕ) → counted ≡ saturated (above + here) → counted ≤ 255 → above + here ≤ 255
small_sum_is above here counted h less = omega (arith, h, less)

module _ {lines : List LineTree} {a : Assignment} {k : ℕ} {s : PassOneState} {t : LineFacts} (at : IsAt lines a k s)
    (told : AreLineFacts lines a k t) where
  -- what is counted
  pub counted : {c : Counts} {segment : TextSegment} {body : BodyTree} → segment ≡ a.segment k → body ≡ body_at lines k
      → AreCounts (size_in s.segments.table) s.numbered s.externals segment (text_segment t.next) t.size body c
      → IsCounted lines a k c
  unfolding filled segments_before externals_before
  counted {c = c} own is counts =
      let h : AreCounts (λ id. filled lines a id k) (segments_before lines a k) (externals_before lines k) (a.segment k)
      (a.segment (suc k)) (saturated (size_at lines a k)) (body_at lines k) c =
      coe 0 1 (i. AreCounts (λ id. at.segments.table.sizes id i) (at.numbered i) (at.declared i)
      (own i) (told.next i) (told.size i) (is i) c) counts in
      record {
        next =
            h.next ∙ given_sum ((a.segment k).id == (a.segment (suc k)).id) (filled lines a (a.segment (suc k)).id k)
            (size_at lines a k);
        segments = cc (h.segments, numbers_same lines a k (body_at lines k));
        externals = h.externals;
      }

  -- the fault of a line that repeats nothing
  pub fault_told : {c : Counts} {segment : TextSegment} {body : BodyTree} → Fits lines a → segment ≡ a.segment k
      → body ≡ body_at lines k → is_repeated lines k ≡ false → IsCounted lines a k c
      → fault_by (exceeds_end (text_segment t.next) c.next) (is_misplaced segment body)
      (are_too_many c.segments c.externals) (evaluated_fault t.operand)
      ≡ placed_fault lines a k
  unfolding placed_fault
  fault_told {c = c} f own is once counts =
      let past : exceeds_end (text_segment t.next) c.next ≡ is_past lines a k =
      (λ i. exceeds_end (told.next i) (counts.next i))
      ∙ cc (passes_same (a.segment (suc k)) (filled lines a (a.segment (suc k)).id (suc k)), f.places (suc k)) in
      let many : are_too_many c.segments c.externals ≡ is_too_many lines a k =
      cc (
        counts.segments,
        counts.externals,
        small_over 255 (externals_before lines (suc k)) (2 ^ 64 - 1) (omega arith),
      ) in
      (λ i. fault_by (past i) (is_misplaced (own i) (is i)) (many i) (told.operand.fault_is i))
      ∙ sym (rw once refl)

  -- the bank after a line without a fault
  pub bank_after : IsFaultFree lines a k → bank_in s.bank t.operand ≡ bank_before lines a (suc k)
  unfolding bank_before
  bank_after free = cc (told.operand.bank_is free.operand s.bank, at.selected)

module _ {lines : List LineTree} {a : Assignment} {k : ℕ} {s : PassOneState} {t : LineFacts} {c : Counts}
    (f : Fits lines a) (line : LineTree) (is : slice_get lines k ≡ Some line) (free : IsFaultFree lines a k)
    (at : IsAt lines a k s) (told : AreLineFacts lines a k t) (counts : IsCounted lines a k c) (small : AreSmall c)
    (g : Giving) (here : g.here ≡ t.here)
    (expression : option_map located_value g.expression ≡ given_in t.operand) (number : g.line ≡ k)
    (externals : g.externals ≡ s.externals) (n : PassOneState) where
  known_next : ((name : List ℕ)
      → value_in n.values name ≡ given_or g (map brief (definitions_in line.stmt)) name (value_in s.values name))
      → (name : List ℕ) → option_map located_value (value_in n.values name) ≡ value_above lines a (suc k) name
  known_next h name =
      let gives = expression ∙ told.operand.given_is free.operand
      ∙ ap (λ l. expression_given (above lines a k) (body_of l)) is in
      let gave = given lines a k g (ap located_value here ∙ told.here) number (externals ∙ at.declared) name
      (value_in s.values name) line.stmt gives in
      cc (h name, gave, at.known name, is, grown lines a k name line is free.once)

  -- the state after a line
  pub at_next : ((name : List ℕ)
      → value_in n.values name ≡ given_or g (map brief (definitions_in line.stmt)) name (value_in s.values name))
      → n.segments.table ≡ with_entry s.segments.table (text_segment t.next) c.next → n.segments.current ≡ t.next.id
      → ((kind : Kind) → last_id n.segments.last kind ≡ last_with (text_segment t.next) (last_id s.segments.last) kind)
      → n.bank ≡ bank_in s.bank t.operand → n.numbered ≡ c.segments → n.externals ≡ c.externals
      → IsAt lines a (suc k) n
  at_next values table current latest selected numbered declared = record {
    known = known_next values;
    segments =
        more_segments lines a f k (slice_get_within lines k line is) s.segments n.segments t.next c.next at.segments
        told.next
        (counts.next ∙ small_is _ 65535 (omega arith) (rw counts.next at small.next)) table current latest;
    selected = selected ∙ bank_after at told free;
    numbered = numbered ∙ counts.segments;
    declared = declared ∙ counts.externals ∙ small_is _ 255 (omega arith) (rw counts.externals at small.externals);
  }

nothing_above : (lines : List LineTree) (a : Assignment) (name : List ℕ) → value_above lines a 0 name ≡ None
unfolding value_above definition_of
nothing_above [] a name = refl
nothing_above (l ∷ lines) a name = refl

-- before the first line nothing is kept
pub at_start : (lines : List LineTree) (a : Assignment) (s : PassOneState)
    → ((name : List ℕ) → value_in s.values name ≡ None) → AreSegmentsAt lines a 0 s.segments
    → s.bank ≡ 0 → s.numbered ≡ 0 → s.externals ≡ 0 → IsAt lines a 0 s
unfolding bank_before segments_before externals_before
at_start lines a s values segments bank numbered externals = record {
  known = λ name. ap (option_map located_value) (values name) ∙ sym (nothing_above lines a name);
  segments = segments;
  selected = bank;
  numbered = numbered;
  declared = externals;
}
