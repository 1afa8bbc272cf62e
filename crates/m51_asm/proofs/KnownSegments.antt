-- The segments of a text are known by their ids; those of its module, their sizes and numbers, that they are not too
-- many, and the table and the list that the code makes of them line by line.
use Rattle.m51_asm.proofs
use Rattle.m51_asm.specs
use proofs.Common.{true, false, cases_Bool, above, ◌≡◌, ◌≢◌, ◌⊎◌, inl, inr, ℕ, zero, suc, ◌+◌, ◌<◌, ◌≤◌, nat_lt, Bool}
use proofs.Common.{cond, List, [], ◌∷◌, ◌++◌, Option, Some, None, refl, sym, ap, subst, ◌∙◌, arith, ltb-true, Kind}
use proofs.Common.{Reloc, is_absolute, BodyTree, LineTree, TextSegment, Assignment, opening, body_at, Fits, unwrap_or}
use proofs.Common.{some_pair_parts, cases_eq, eq-eqb, ne_eqb, ◌==◌, length, add-zero, ltb-false, or_parts, map}
use proofs.Common.{option_map, slice_get, not, ◌||◌, and_parts, kind_same, Segment, below_more, allows, largest}
use proofs.Common.{may_overlay, nat_le, flat_map, length-append, length-map, externals, externals_by, ◌-◌, text_segment}
use proofs.Common.{SegmentEntry, size_in, segment_in, current_in, number_at, append-nil, AreNumbered}
use specs.Definitions.{Definition, SegmentOf, definitions_in, label_defined, defined_by, externals_from, found_in}
use specs.Definitions.{or_later, definition_from, definition_of}
use specs.Fitting.{segment_by, last_absolute, declared_by, segment_behind, size_at, filled, declared_in, externals_in}
use specs.Fitting.{externals_before}
use specs.ObjectSegments.{declared_or, segment_of, Kept, from_one, index_in, size_of, kept_by, number_in, relocatable}
use specs.ObjectSegments.{absolute_of, if_filled, kept_before, kept}
use specs.Assignment.{segment_reloc, absolute, reloc_by}
use proofs.GoodLines.{IsGood, IsFreeText, free, IsDeclared}
use specs.PlacedFaults.{kind_end, is_numbered_by, numbers_a_segment, segments_before}
use Rattle.m51_module.specs.Validity.{numbered, IsSegmentValid}
use Rattle.std.proofs.lemmas.Option.{slice_get-map, slice_get_cases, unwrap_or-slice_get, slice_get_past}
use Rattle.m51_cells.proofs.Members.{In, Pairs, every_in, in_left, in_right, pairs_append, at_in, got_in, pairs_got}
use Rattle.m51_cells.proofs.Members.{Every}
use proofs.Members.{in_both}
use Rattle.m51_cells.specs.Fits.{Fits as FitsIn'}
use Rattle.std.proofs.lemmas.List.Concat.{flat_map_single}
use Rattle.std.proofs.lemmas.List.{get_or-set_same, get_or-set_other, length-set, map-append}
use specs.declared.segments.SegmentsAbove.{SegmentsAbove}
use specs.declared.segments.OpenSegment.{OpenSegment}
use specs.SegmentTable.{empty_entry, declared_entry, declared_entries, entry_in, segment_as, with_entry}
use specs.OpenSegments.{last_in, last_id, last_with}
use specs.Placing.{IsSegmentTableAt, AreSegmentsAt}
use specs.Repeats.{or_here}
use proofs.DefinedLines.{or_none}
use specs.Numbering.{segment_filled, segment_added, as_list, next_number, kept_as}
use Rattle.m51_cells.specs.declared.kind.Kind.TheVariants as kind
use Rattle.m51_cells.specs.declared.kind.Reloc.TheVariants as reloc
use Rattle.m51_stmt.specs.Statement as body
use Rattle.std.proofs.lemmas.Bool.Decides.{nat_tests}

-- a body that declares a segment of the kind
pub record Declares (b : BodyTree) (k : Kind) : Type 0 where
  pub name : List ℕ
  pub type : Reloc
  pub overlayable : Bool
  pub is : b ≡ body.Segment name k type overlayable

abbrev pub defined_there : ℕ → Definition → Option (ℕ × Definition)
defined_there line d = Some (line, d)

-- a definition of some lines is of the first of them or of a later one
pub later_is : (n : ℕ) (f : Option Definition) (later : Option (ℕ × Definition)) (line : ℕ) (d : Definition)
    → or_later n f later ≡ defined_there line d
    → ((n ≡ line) × (f ≡ Some d)) ⊎ (later ≡ defined_there line d)
later_is n (Some x) later line d h = let p = some_pair_parts _ _ _ _ h in inl (p.0, ap (λ y. Some y) p.1)
later_is n None later line d h = inr h

module _ (name : List ℕ) (k : Kind) where
  extern_found : (xs : List (List ℕ × Kind)) (n : ℕ) → found_in (externals_from n xs) name ≡ Some (SegmentOf k) → ⊥
  extern_found [] n h = cc h
  extern_found (x ∷ xs) n h = grind (arith, extern_found xs (suc n))

  body_found : (b : BodyTree) → found_in (defined_by b) name ≡ Some (SegmentOf k) → Declares b k
  body_found (body.Segment t j type overlayable) h =
      let same : j ≡ k = grind arith in
      record { name = t; type = type; overlayable = overlayable; is = λ i. body.Segment t (same i) type overlayable }
  body_found (body.Extrn xs) h = absurd (extern_found xs 0 h)
  body_found b h = absurd (grind arith)

  line_found : (label : Option (List ℕ)) (b : BodyTree)
      → found_in (label_defined label ++ defined_by b) name ≡ Some (SegmentOf k) → Declares b k
  line_found label b h = grind (arith, body_found)

  declared_from : (lines : List LineTree) (n line : ℕ) → definition_from n lines name ≡ Some (line, SegmentOf k)
      → (j : ℕ) × (line ≡ n + j) × Declares (body_at lines j) k
  declared_from [] n line h = absurd (cc h)
  declared_from (l ∷ lines) n at h =
      elim (later_is n (found_in (definitions_in l.stmt) name) (definition_from (suc n) lines name) at _ h) [
        | inl p ↦ (0, omega arith, line_found l.stmt.label l.stmt.body p.1)
        | inr e ↦ let r = declared_from lines (suc n) at e in (suc r.0, omega arith, r.2)
      ]

  -- what is defined as a segment is declared by its line
  pub declares : (lines : List LineTree) (line : ℕ) → definition_of lines name ≡ Some (line, SegmentOf k)
      → Declares (body_at lines line) k
  unfolding definition_of
  declares lines line h =
      let r = declared_from lines 0 line h in
      let e : r.0 ≡ line = omega arith in rw (← e) r.2

pub two_more : (k : ℕ) → k + 2 ≡ suc (suc k)
two_more k = omega arith

pub last_or_below : (j k : ℕ) → j ≤ suc k → (j ≡ suc k) ⊎ (j ≤ k)
last_or_below j k h = grind (arith, h)

-- a segment of the text that is known by its id
pub record IsKnown (lines : List LineTree) (a : Assignment) (k : ℕ) (s : TextSegment) : Type 0 where
  pub same : segment_of lines a s.id ≡ s
  pub low : s.id ≤ suc k
  pub type : s.reloc ≡ segment_reloc lines s.id
  pub kind_is : ((j : ℕ) → IsGood (body_at lines j)) → s.kind ≢ kind.Number

module _ (lines : List LineTree) (a : Assignment) (f : Fits lines a) where
  abbrev Known : ℕ → Type 0
  Known k = IsKnown lines a k (a.segment k)

  abbrev Below : ℕ → Type 0
  Below k = (j : ℕ) → j ≤ k → Known j

  known_as : (j k : ℕ) → j ≤ k → a.segment k ≡ a.segment j → Known j → Known k
  known_as j k h e known =
      rw e (record { same = known.same; low = omega arith; type = known.type; kind_is = known.kind_is })

  -- the last absolute segment of a kind is that of a line
  pub last_is : (k : ℕ) (j : Kind) (s : TextSegment) → last_absolute a.segment j k ≡ Some s
      → (i : ℕ) × (i ≤ k) × (a.segment i ≡ s)
  unfolding last_absolute
  last_is zero j s h = grind arith
  last_is (suc k) j s h = grind (arith, last_is k j s)

  module _ (k : ℕ) (below : Below k) where
    stays_known : a.segment (suc k) ≡ a.segment k → Known (suc k)
    stays_known e = known_as _ _ (omega arith) e (below k (omega arith))

    -- a line that says no SEGMENT, and begins one
    begun : (b : BodyTree) (j : Kind) (at : ℕ) → body_at lines k ≡ b
        → declared_or lines k (a.segment (suc k)) b ≡ a.segment (suc k) → reloc_by b ≡ reloc.Abs
        → a.segment (suc k) ≡ absolute (k + 2) j at → (((i : ℕ) → IsGood (body_at lines i)) → j ≢ kind.Number)
        → Known (suc k)
    begun b j at is other type e some = rw e (record {
      same = ap (segment_of lines a) (two_more k) ∙ ap (declared_or lines k (a.segment (suc k))) is ∙ other ∙ e;
      low = omega arith;
      type = sym (ap (segment_reloc lines) (two_more k) ∙ ap reloc_by is ∙ type);
      kind_is = some;
    })

    declared_known : (name : List ℕ) (o : Option (ℕ × Definition)) → definition_of lines name ≡ o
        → a.segment (suc k) ≡ unwrap_or (declared_by lines k o) (a.segment k) → Known (suc k)
    declared_known name (Some (line, SegmentOf j)) is e = elim (cases_Bool (nat_lt line k)) [
      | inl test ↦
          let d : Declares (body_at lines line) j = declares name j lines line is in
          let less : line < k = ltb-true _ _ test in
          let now = rw test at e in
          rw now (record {
            same = ap (segment_of lines a) (two_more line) ∙ ap (declared_or lines line (a.segment (suc line))) d.is;
            low = omega arith;
            type = sym (ap (segment_reloc lines) (two_more line));
            kind_is = λ good. (subst IsGood d.is (good line)).kind_is;
          })
      | inr test ↦ stays_known (rw test at e)
    ]
    declared_known name o is e = stays_known e

    selected_known : (j : Kind) (o : Option TextSegment) → body_at lines k ≡ body.Select j None
        → last_absolute a.segment j k ≡ o → a.segment (suc k) ≡ unwrap_or o (absolute (k + 2) j 0) → Known (suc k)
    selected_known j (Some s) is last e =
        let r = last_is k j s last in
        known_as _ _ (omega arith) (e ∙ sym r.2) (below r.0 r.1)
    selected_known j None is last e = begun _ _ _ is refl refl e (λ good. subst IsGood is (good k))

    next_known : (b : BodyTree) → body_at lines k ≡ b
        → a.segment (suc k) ≡ segment_by lines k (above lines a k) (λ j. last_absolute a.segment j k) (a.segment k) b
        → Known (suc k)
    next_known (body.Rseg name) is e = declared_known name _ refl e
    next_known (body.Select j (Some t)) is e = begun _ _ _ is refl refl e (λ good. subst IsGood is (good k))
    next_known (body.Select j None) is e = selected_known _ _ is refl e
    next_known (body.Org t) is e = elim (cases_Bool (is_absolute (a.segment k).reloc)) [
      | inl test ↦ begun _ _ _ is refl refl (rw test at e) (below k (omega arith)).kind_is
      | inr test ↦ stays_known (rw test at e)
    ]
    next_known b is e = stays_known e

  known_below : (k : ℕ) → Below k
  unfolding segment_behind
  known_below zero j h =
      let e : j ≡ 0 = omega arith in
      rw (e, f.first) (record { same = refl; low = omega arith; type = refl; kind_is = λ good e. cc e })
  known_below (suc k) j h = elim (last_or_below _ _ h) [
    | inl e ↦ rw e (next_known k (known_below k) _ refl (f.segments k))
    | inr l ↦ known_below k j l
  ]

  -- the segment of a line is the one of its id
  pub known : (k : ℕ) → IsKnown lines a k (a.segment k)
  known k = known_below k k (omega arith)

-- The segments of a module: none goes past the end of its kind, each is valid and one of the text, in the order of ids;
-- its number counts from 1 in that order, and leads to it.

-- this size fits in the segment
pub record HasRoom (s : TextSegment) (size : ℕ) : Type 0 where
  pub end : s.base + size ≤ kind_end s.kind
  pub most : size ≤ 65535

-- a segment that holds nothing, or in which this size fits
abbrev pub FitsIn : TextSegment → ℕ → Type 0
FitsIn s size = (size ≡ 0) ⊎ HasRoom s size

-- a line that gives something leaves its segment open
pub stays : (lines : List LineTree) (a : Assignment) → Fits lines a → (k : ℕ)
    → (size_at lines a k ≡ 0) ⊎ (a.segment (suc k) ≡ a.segment k)
unfolding size_at segment_behind
stays lines a f k = grind arith

-- what a line gives to its own segment
pub filled_here : (lines : List LineTree) (a : Assignment) (id k : ℕ) → ((a.segment k).id == id) ≡ true
    → filled lines a id (suc k) ≡ filled lines a id k + size_at lines a k
unfolding filled
filled_here lines a id k e = rw e refl

-- a line gives nothing to another segment
pub filled_there : (lines : List LineTree) (a : Assignment) (k id : ℕ) → ((a.segment k).id == id) ≡ false
    → filled lines a id (suc k) ≡ filled lines a id k
unfolding filled
filled_there lines a k id e = rw e (omega arith)

-- more lines give no less
pub filled_up : (lines : List LineTree) (a : Assignment) (id j k : ℕ) → j ≤ k
    → filled lines a id j ≤ filled lines a id k
unfolding filled
filled_up lines a id j zero h = grind arith
filled_up lines a id j (suc k) h = grind (arith, last_or_below j k h, filled_up lines a id j k)

module _ (lines : List LineTree) (a : Assignment) (c : IsFreeText lines a) where
  room_after : (k : ℕ) → k < length lines → HasRoom (a.segment (suc k)) (filled lines a (a.segment (suc k)).id (suc k))
  room_after k below = grind (arith, or_parts, ltb-false, free lines a k (c.placed k below), c.fits.places (suc k))

  -- a segment holds nothing, or what it holds fits
  pub room : (n : ℕ) → n ≤ length lines → (s : TextSegment) → segment_of lines a s.id ≡ s
      → FitsIn s (filled lines a s.id n)
  unfolding filled
  room zero within s is = inl refl
  room (suc k) within s is =
      grind (arith, room k (omega arith) s is, ne_eqb, add-zero, stays, eq-eqb, known, room_after)

-- the ids of segments
abbrev pub ids : List Kept → List ℕ
ids xs = map (λ s. s.id) xs

abbrev pub Ascend : List Kept → Type 0
Ascend xs = Pairs (λ s t. s.id < t.id) xs

-- a segment is at the index that its number gives
abbrev StandsAt : List Kept → Kept → Type 0
StandsAt xs s = (index : ℕ) × (index_in (ids xs) s.id ≡ Some index) × (slice_get xs index ≡ Some s)

-- the id of a segment is found at its index
pub index_is : (xs : List Kept) → Ascend xs → (j : ℕ) (s : Kept) → slice_get xs j ≡ Some s
    → index_in (ids xs) s.id ≡ Some j
index_is [] order j s e = absurd (cc e)
index_is (x ∷ xs) order zero s e = grind arith
index_is (x ∷ xs) order (suc j) s e =
    grind (arith, ne_eqb, index_is xs order.1 j s e, every_in (λ t. x.id < t.id) xs s order.0 (got_in xs j s e))

stands : (xs : List Kept) → Ascend xs → (s : Kept) → In s xs → StandsAt xs s
stands xs h s i = let r = at_in xs s i in (r.index, index_is xs h r.index s r.got, r.got)

-- the number of a segment of the module leads to it
pub leads_to : (xs : List Kept) → Ascend xs → (s : Kept) → In s xs
    → numbered (map (λ k. k.segment) xs) (number_in xs s.id) ≡ Some s.segment
unfolding number_in
leads_to xs h s i = grind (arith, stands, slice_get-map)

-- a number other than 0 is that of a segment of the module with this id, and leads to it
abbrev pub IsNumbered : List Kept → ℕ → Type 0
IsNumbered xs id = (s : Kept) × In s xs × (s.id ≡ id)
    × (numbered (map (λ k. k.segment) xs) (number_in xs id) ≡ Some s.segment)

-- a segment of the module has a number other than 0
is_numbered : (xs : List Kept) → Ascend xs → (s : Kept) → In s xs → number_in xs s.id ≢ 0
unfolding number_in
is_numbered xs h s i e = let some = ap from_one (stands xs h s i).1 in omega arith

still_none : (o : Option ℕ) → from_one o ≡ 0 → from_one (option_map (λ n. suc n) o) ≡ 0
still_none o e = grind arith

found_kept : (xs : List Kept) (id : ℕ) → from_one (index_in (ids xs) id) ≢ 0 → (s : Kept) × In s xs × (s.id ≡ id)
found_kept [] id ne = absurd (ne refl)
found_kept (x ∷ xs) id ne = grind (arith, found_kept xs id, cases_eq, ne_eqb, still_none)

-- a number other than 0 leads to a segment of the module
pub has_number : (xs : List Kept) → Ascend xs → (id : ℕ) → number_in xs id ≢ 0 → IsNumbered xs id
unfolding number_in
has_number xs h id ne = grind (arith, found_kept, leads_to)

-- of two segments the later one has the larger number
pub numbers_ascend : (xs : List Kept) → Ascend xs → Pairs (λ s t. number_in xs s.id < number_in xs t.id) xs
unfolding number_in
numbers_ascend xs h =
    pairs_got _ xs (λ i j s t less at_s at_t.
    omega (arith, ap from_one (index_is xs h i s at_s), ap from_one (index_is xs h j t at_t)))

-- a segment without a name, or one that a line declares under its name
pub data IsNamed (lines : List LineTree) (id : ℕ) (s : Segment) : Type 0 where
  Nameless : s.name ≡ [] → s.reloc ≡ reloc.Abs → IsNamed lines id s
  DeclaredAt : (k : ℕ) (j : Kind) (d : Declares (body_at lines k) j) → id ≡ k + 2 → s.name ≡ d.name → IsNamed lines id s

pub record IsKept (lines : List LineTree) (a : Assignment) (s : Kept) : Type 0 where
  pub kind_is : s.segment.kind ≡ (segment_of lines a s.id).kind
  pub size_is : s.segment.size ≡ size_of lines a s.id
  pub valid : IsSegmentValid s.segment
  pub named : IsNamed lines s.id s.segment
  pub fixed : s.segment.reloc ≡ reloc.Abs → (segment_of lines a s.id).reloc ≡ reloc.Abs

size_within : (s : TextSegment) (size : ℕ) → FitsIn s size → size ≤ largest s.kind
size_within s size b = grind arith

fits_absolute : (k : Kind) (base size : ℕ) → k ≢ kind.Number → base + size ≤ kind_end k → FitsIn' k reloc.Abs base size
fits_absolute k base size ne end = grind arith

module _ (lines : List LineTree) (a : Assignment) (c : IsFreeText lines a) where
  -- an absolute segment that has something
  absolute_kept : (s : TextSegment) (more : ℕ) → segment_of lines a s.id ≡ s → s.kind ≢ kind.Number
      → s.reloc ≡ reloc.Abs → size_of lines a s.id ≡ suc more → IsKept lines a (absolute_of s (suc more))
  absolute_kept s more same some type is = grind (arith, room, size_within, fits_absolute)

  relocatable_kept : (k : ℕ) (name : List ℕ) (j : Kind) (r : Reloc) (overlayable : Bool)
      → body_at lines k ≡ body.Segment name j r overlayable
      → IsKept lines a (relocatable (k + 2) name j r overlayable (size_of lines a (k + 2)))
  relocatable_kept k name j r overlayable is =
      let good : IsDeclared name j r overlayable = rw is at (c.good k) in
      let same : segment_of lines a (k + 2) ≡ declared_in lines k j = ap (segment_of lines a) (two_more k)
      ∙ ap (declared_or lines k (a.segment (suc k))) is in
      let allowed = and_parts (allows j r) (not overlayable || may_overlay j r) good.allowed in
      record {
        kind_is = λ i. (sym same i).kind;
        size_is = refl;
        valid = record {
          kind = good.kind_is;
          reloc = allowed.0;
          size = size_within (declared_in lines k j) _ (room lines a c _ (omega arith) _ same);
          absolute = λ e. absurd (good.reloc_is e);
          relocatable = λ other. record { name = good.name_is; base = refl };
          overlay = λ e. rw e at allowed.1;
          argument = λ e.
              let p = and_parts _ _ e in
              let q = and_parts _ _ p.0 in
              record { kind = kind_same _ _ q.1; overlay = q.0; name = p.1 };
        };
        named = DeclaredAt k j (record { name = name; type = r; overlayable = overlayable; is = is }) refl refl;
        fixed = λ e. absurd (good.reloc_is e);
      }

  -- one segment of this id, or none
  abbrev Adds : ℕ → List Kept → Type 0
  Adds id xs = Every (λ s. IsKept lines a s × (s.id ≡ id)) xs × Pairs (λ s t. s.id < t.id) xs

  filled_adds : (s : TextSegment) (size : ℕ) → segment_of lines a s.id ≡ s → s.kind ≢ kind.Number
      → s.reloc ≡ reloc.Abs → size_of lines a s.id ≡ size → Adds s.id (if_filled s size)
  filled_adds s zero same some type is = (tt, tt)
  filled_adds s (suc more) same some type is = (((absolute_kept s more same some type is, refl), tt), (tt, tt))

  line_adds : (k : ℕ) (b : BodyTree) → body_at lines k ≡ b → Adds (k + 2) (kept_by lines a k b)
  line_adds k (body.Segment name j r overlayable) is =
      (((relocatable_kept k name j r overlayable is, refl), tt), (tt, tt))
  line_adds k b is =
      let s = a.segment (suc k) in
      let known = known lines a c.fits (suc k) in
      elim (cases_eq s.id (k + 2)) [
        | inr ne ↦ rw (ne_eqb _ _ ne) (tt, tt)
        | inl id ↦ rw (eq-eqb _ _ id, ← id) (filled_adds s _ known.same (known.kind_is c.good)
            (known.type ∙ ap (segment_reloc lines) (id ∙ two_more k) ∙ ap reloc_by is) refl)
      ]

  -- the segments of the first lines, whose ids go to this one
  pub record AreKept (last : ℕ) (xs : List Kept) : Type 0 where
    pub every : (s : Kept) → In s xs → IsKept lines a s
    pub low : (s : Kept) → In s xs → s.id ≤ last
    pub order : Pairs (λ s t. s.id < t.id) xs

  step : (last id next : ℕ) (xs ys : List Kept) → last < id → id ≡ next → AreKept last xs → Adds id ys
      → AreKept next (xs ++ ys)
  step last id next xs ys less is h o =
      let new : (s : Kept) → In s ys → IsKept lines a s × (s.id ≡ id) = λ s i. every_in _ ys s o.0 i in
      record {
        every = in_both _ _ _ h.every (λ s i. (new s i).0);
        low = in_both (λ s. s.id ≤ next) xs ys (λ s i. omega (arith, h.low s i)) (λ s i. omega (arith, new s i));
        order = pairs_append _ _ _ h.order o.1 (λ s t i j. omega (arith, h.low s i, new t j));
      }

  pub are_kept : (k : ℕ) → AreKept (suc k) (kept_before lines a k)
  unfolding kept_before
  are_kept zero =
      step 0 1 1 [] _ (omega arith) refl (record { every = λ s i. absurd i; low = λ s i. absurd i; order = tt })
      (filled_adds opening _ refl (λ e. cc e) refl refl)
  are_kept (suc k) = step _ _ _ _ _ (omega arith) (two_more k) (are_kept k) (line_adds k (body_at lines k) refl)

  -- the segments of the module
  pub all_kept : AreKept (suc (length lines)) (kept lines a)
  unfolding kept
  all_kept = are_kept (length lines)

  -- a segment of this id is one of those of the first n lines
  abbrev IsAmong : ℕ → ℕ → Type 0
  IsAmong n id = (s : Kept) × In s (kept_before lines a n) × (s.id ≡ id)

  -- the type of what a line declares
  abbrev declares_absolute : ℕ → Bool
  declares_absolute k = is_absolute (reloc_by (body_at lines k))

  declared_by_line : (k : ℕ) (b : BodyTree) → is_absolute (reloc_by b) ≡ false
      → (s : Kept) × In s (kept_by lines a k b) × (s.id ≡ k + 2)
  declared_by_line k (body.Segment name j r overlayable) h = (_, inl refl, refl)
  declared_by_line k b h = absurd (cc h)

  declared_above : (n k : ℕ) → k < n → declares_absolute k ≡ false → IsAmong n (k + 2)
  unfolding kept_before
  declared_above zero k less = absurd (omega arith)
  declared_above (suc n) k less =
      below_more (λ k. declares_absolute k ≡ false → IsAmong (suc n) (k + 2)) n
      (λ j l h. let r = declared_above n j l h in (r.0, in_left _ _ _ r.1, r.2))
      (λ h. let r = declared_by_line n (body_at lines n) h in (r.0, in_right _ _ _ r.1, r.2)) k (omega arith)

  declared_inside : (k : ℕ) → declares_absolute k ≡ false → k < length lines
  declared_inside k h = grind (arith, slice_get_cases)

  -- the module has each relocatable segment
  pub relocatable_numbered : (id : ℕ) → is_absolute (segment_reloc lines id) ≡ false → number_in (kept lines a) id ≢ 0
  unfolding kept
  relocatable_numbered zero h = absurd (cc h)
  relocatable_numbered (suc zero) h = absurd (cc h)
  relocatable_numbered (suc (suc k)) h =
      let r = declared_above (length lines) k (declared_inside k h) h in
      λ e. is_numbered _ all_kept.order r.0 r.1 (ap (number_in (kept lines a)) (r.2 ∙ two_more k) ∙ e)

-- A text without faults gives no more segments and externals than a module may have.

-- what those of the lines before line n give that pass a test
unfoldable pub sum_of : (ℕ → Bool) → (ℕ → ℕ) → ℕ → ℕ
sum_of test gives zero = 0
sum_of test gives (suc k) = sum_of test gives k + cond (test k) (gives k) 0

-- what they give to one id, where each line gives to its owner only
abbrev pub share : (owner gives : ℕ → ℕ) → ℕ → ℕ → ℕ
share owner gives id = sum_of (λ k. owner k == id) gives

-- what they give to ids from this one on
abbrev above_id : (owner gives : ℕ → ℕ) → ℕ → ℕ → ℕ
above_id owner gives low = sum_of (λ k. nat_le low (owner k)) gives

module _ (owner gives most : ℕ → ℕ) (n : ℕ) (grows : (k : ℕ) → k < n → most k + gives k ≤ most (suc k)) where
  joined : (low id k : ℕ) → low ≤ id
      → share owner gives id k + above_id owner gives (suc id) k ≤ above_id owner gives low k
  unfolding sum_of
  joined low id zero h = omega arith
  joined low id (suc k) h = grind (arith, joined low id k h)

  all_above : (k : ℕ) → k ≤ n → above_id owner gives 0 k ≤ most k
  unfolding sum_of
  all_above zero within = omega arith
  all_above (suc k) within = grind (arith, all_above k (omega arith))

  few_from : {B : Type 0} (f : Kept → List B) (low : ℕ) (xs : List Kept) → ((s : Kept) → In s xs → low ≤ s.id)
      → Ascend xs
      → ((s : Kept) → In s xs → length (f s) ≤ share owner gives s.id n)
      → length (flat_map f xs) ≤ above_id owner gives low n
  few_from f low [] first order each = omega arith
  few_from f low (s ∷ xs) first order each =
      omega (
        arith,
        length-append (f s) (flat_map f xs),
        each s (inl refl),
        joined low s.id n (first s (inl refl)),
        few_from f (suc s.id) xs (λ t i. every_in (λ t. s.id < t.id) xs t order.0 i) order.1 (λ t i. each t (inr i)),
      )

  -- segments of ascending ids with no more than is given to each are no more than all lines give
  pub few_in_all : {B : Type 0} (f : Kept → List B) (xs : List Kept) → Ascend xs
      → ((s : Kept) → In s xs → length (f s) ≤ share owner gives s.id n) → length (flat_map f xs) ≤ most n
  few_in_all f xs order each = omega (arith, few_from f 0 xs (λ s i. omega arith) order each, all_above n (omega arith))

module _ (lines : List LineTree) (a : Assignment) (c : IsFreeText lines a) where
  -- the segment that may get its number at a line
  abbrev owner_by : ℕ → BodyTree → ℕ
  owner_by k (body.Segment name j type overlayable) = k + 2
  owner_by k b = (a.segment k).id

  abbrev owner : ℕ → ℕ
  owner k = owner_by k (body_at lines k)

  abbrev gives : ℕ → ℕ
  gives k = cond (numbers_a_segment lines a k) 1 0

  -- the line gives its number to the segment of this id
  abbrev Numbers : ℕ → ℕ → BodyTree → Type 0
  Numbers id k b = (owner_by k b ≡ id) × (is_numbered_by lines a k b ≡ true)

  shared : (id k n : ℕ) → Numbers id k (body_at lines k) → k < n → 0 < share owner gives id n
  unfolding sum_of
  shared id k zero h less = absurd (omega arith)
  shared id k (suc n) h less = grind (arith, last_or_below, eq-eqb, shared id k n h)

  -- the line that gives an absolute segment its first byte
  first_line : (id k : ℕ) → (a.segment k).id ≡ id → (segment_of lines a id).reloc ≡ reloc.Abs
      → filled lines a id k ≡ 0 → size_at lines a k ≢ 0 → (b : BodyTree) → body_at lines k ≡ b → Numbers id k b
  unfolding size_at
  first_line id k open_is fixed none size (body.Segment name j type overlayable) is = grind arith
  first_line id k open_is fixed none size b is = grind (arith, known, ne_eqb)

  filled_from : (id n : ℕ) → (segment_of lines a id).reloc ≡ reloc.Abs → filled lines a id n ≢ 0
      → (k : ℕ) × (k < n) × Numbers id k (body_at lines k)
  unfolding filled
  filled_from id zero fixed some = absurd (some refl)
  filled_from id (suc k) fixed some = elim (cases_eq (filled lines a id k) 0) [
    | inl none ↦ elim (cases_eq (a.segment k).id id) [
      | inl same ↦ (
        k,
        omega arith,
        first_line id k same fixed none (λ z. some (rw (eq-eqb _ _ same) (omega arith))) (body_at lines k) refl,
      )
      | inr other ↦ absurd (some (rw (ne_eqb _ _ other) (omega arith)))
    ]
    | inr more ↦ let r = filled_from id k fixed more in (r.0, omega arith, r.2)
  ]

  has_share : (s : Kept) → IsKept lines a s → s.id ≤ suc (length lines) → IsNamed lines s.id s.segment
      → 0 < share owner gives s.id (length lines)
  has_share s is low (Nameless n r) = grind (arith, filled_from, shared)
  has_share s is low (DeclaredAt k j d at n) = shared _ k _ (rw d.is (sym at, refl)) (omega arith)

  -- lines say no more segments and externals than a module may have
  few : (n : ℕ) → n ≡ length lines → (segments_before lines a n ≤ 254) × (externals_before lines n ≤ 255)
  unfolding segments_before externals_before
  few zero is = omega arith
  few (suc k) is = grind (arith, or_parts, ltb-false, (free lines a k (c.placed k (omega arith))).few)

  -- no more segments of the first lines either
  pub kept_most : (k : ℕ) → k ≤ length lines → length (kept_before lines a k) ≤ 254
  unfolding segments_before
  kept_most k within =
      let all = are_kept lines a c k in
      let xs = kept_before lines a k in
      let ones = few_in_all owner gives (segments_before lines a) (length lines) (λ j less. omega arith)
      (λ s. s ∷ []) xs all.order
      (λ s i. has_share s (all.every s i) (omega (arith, all.low s i)) (all.every s i).named) in
      omega (arith, ap length (flat_map_single (λ (s : Kept). s) xs) ∙ length-map xs (λ s. s), few (length lines) refl)

  pub few_segments : length (kept lines a) ≤ 254
  unfolding kept
  few_segments = kept_most (length lines) (omega arith)

externals_of : (b : BodyTree) → externals_in b ≡ length (externals_by b)
externals_of b = grind (arith, length-map)

-- these are the lines from line n on
abbrev pub IsRest : List LineTree → ℕ → List LineTree → Type 0
IsRest lines n ls = (j k : ℕ) → k ≡ n + j → body_at ls j ≡ body_at lines k

pub all_lines : (lines : List LineTree) → IsRest lines 0 lines
all_lines lines j k e = grind arith

externals_to : (lines ls : List LineTree) (n m : ℕ) → IsRest lines n ls → m ≡ n + length ls
    → externals_before lines m ≡ externals_before lines n + length (externals ls)
unfolding externals_before
externals_to lines [] n m rest is = grind arith
externals_to lines (l ∷ ls) n m rest is =
    omega (
      arith,
      externals_to lines ls (suc n) m (λ j k e. rest (suc j) k (omega arith)) (omega arith),
      ap externals_in (rest 0 n (omega arith)),
      externals_of l.stmt.body,
      length-append (externals_by l.stmt.body) (externals ls),
    )

pub externals_count : (lines : List LineTree) → length (externals lines) ≡ externals_before lines (length lines)
unfolding externals_before
externals_count lines = omega (arith, externals_to lines lines 0 (length lines) (all_lines lines) (omega arith))

pub few_externals : (lines : List LineTree) (a : Assignment) → IsFreeText lines a → length (externals lines) ≤ 255
few_externals lines a c = omega (arith, externals_count lines, few lines a c (length lines) refl)

-- The table of the segments of a text: before the first line, as it grows with a line, and after the last one.

-- before the first line an id has what its line declares
declared_at : (lines : List LineTree) (k : ℕ)
    → entry_in (declared_entries lines) (suc (suc k)) ≡ declared_entry (body_at lines k)
declared_at lines k = grind (arith, slice_get-map)

module _ (lines : List LineTree) (a : Assignment) (f : Fits lines a) where
  -- before the first line
  start_table : IsSegmentTableAt lines a 0 (declared_entries lines)
  unfolding filled
  start_table = record {
    counted = omega (arith, length-map lines (λ (l : LineTree). declared_entry l.stmt.body));
    sizes = sizes;
    types = types;
    declared = λ k name kind reloc overlayable is. grind (arith, two_more k, declared_at lines k);
    begun = λ j h. let first : j ≡ 0 = omega (arith, h) in rw (first, f.first) refl;
  }
    where
      sizes : (id : ℕ) → size_in (declared_entries lines) id ≡ 0
      sizes zero = refl
      sizes (suc zero) = refl
      sizes (suc (suc k)) = grind (arith, declared_at)

      types : (id : ℕ) → (entry_in (declared_entries lines) id).reloc ≡ segment_reloc lines id
      types zero = refl
      types (suc zero) = refl
      types (suc (suc k)) = grind (arith, declared_at)

  -- the state before the first line
  pub start_segments : (s : SegmentsAbove) → s.table ≡ declared_entries lines → s.current ≡ opening.id
      → ((kind : Kind) → last_id s.last kind ≡ last_with opening (λ k. None) kind) → AreSegmentsAt lines a 0 s
  unfolding last_absolute
  start_segments s table current last = record {
    table = rw table start_table;
    current = cc f.first;
    latest = λ kind. let from = last kind in grind (arith, from, f.first);
  }

  module _ (k : ℕ) (within : k < length lines) (entries : List SegmentEntry) (h : IsSegmentTableAt lines a k entries)
      (size : ℕ) (full : size ≡ filled lines a (a.segment (suc k)).id (suc k)) where
    abbrev next : TextSegment
    next = a.segment (suc k)

    abbrev entry : SegmentEntry
    entry = record { kind = next.kind; reloc = next.reloc; base = next.base; size = size }

    abbrev longer : List SegmentEntry
    longer = with_entry entries next size

    here : (id : ℕ) → next.id ≡ id → entry_in longer id ≡ entry
    here id e =
        let inside : next.id < length entries =
        let low = (known lines a f (suc k)).low in omega (arith, low, h.counted, within) in
        cc (unwrap_or-slice_get longer id empty_entry, e, get_or-set_same entries next.id entry empty_entry inside)

    there : (id : ℕ) → next.id ≢ id → entry_in longer id ≡ entry_in entries id
    there id ne =
        unwrap_or-slice_get longer id empty_entry ∙ get_or-set_other entries next.id id _ empty_entry (λ e. ne (sym e))
        ∙ sym (unwrap_or-slice_get entries id empty_entry)

    segment_here : (id : ℕ) → next.id ≡ id → segment_in longer id ≡ next
    segment_here id e = ap (segment_as id) (here id e) ∙ ap (λ i. segment_as i entry) (sym e)

    -- a line that leaves another segment open gives nothing to its own
    unchanged : (id : ℕ) → next.id ≢ id → filled lines a id k ≡ filled lines a id (suc k)
    unfolding filled
    unchanged id ne = grind (arith, stays, filled_there, ne_eqb, add-zero)

    -- with one more line
    more_table : IsSegmentTableAt lines a (suc k) longer
    more_table = record {
      counted = length-set entries next.id _ ∙ h.counted;
      sizes = λ id. elim (cases_eq next.id id) [
        | inl e ↦ cc (here id e)
        | inr ne ↦ cc (there id ne, h.sizes id, unchanged id ne)
      ];
      types = λ id. elim (cases_eq next.id id) [
        | inl e ↦ cc (here id e, (known lines a f (suc k)).type)
        | inr ne ↦ cc (there id ne, h.types id)
      ];
      declared = λ d name kind reloc overlayable is. elim (cases_eq next.id (d + 2)) [
        | inl e ↦ segment_here (d + 2) e ∙ sym (known lines a f (suc k)).same
            ∙ ap (segment_of lines a) (e ∙ two_more d) ∙ ap (declared_or lines d (a.segment (suc d))) is
        | inr ne ↦ cc (there (d + 2) ne, h.declared d name kind reloc overlayable is)
      ];
      begun = λ j low. elim (cases_eq next.id (a.segment j).id) [
        | inl e ↦ cc (segment_here (a.segment j).id e, (known lines a f (suc k)).same, (known lines a f j).same)
        | inr ne ↦ ap (segment_as (a.segment j).id) (there (a.segment j).id ne) ∙ elim (last_or_below j k low) [
          | inl e ↦ absurd (ne (ap (λ i. (a.segment i).id) (sym e)))
          | inr l ↦ h.begun j l
        ]
      ];
    }

  -- the state after a line that leaves this segment open
  pub more_segments : (k : ℕ) → k < length lines → (s n : SegmentsAbove) (next : OpenSegment) (size : ℕ)
      → AreSegmentsAt lines a k s → text_segment next ≡ a.segment (suc k)
      → size ≡ filled lines a (a.segment (suc k)).id (suc k) → n.table ≡ with_entry s.table (text_segment next) size
      → n.current ≡ next.id
      → ((kind : Kind) → last_id n.last kind ≡ last_with (text_segment next) (last_id s.last) kind)
      → AreSegmentsAt lines a (suc k) n
  unfolding last_absolute
  more_segments k within s n next size h is full table current last = record {
    table = subst (IsSegmentTableAt lines a (suc k)) (sym (table ∙ ap (λ t. with_entry s.table t size) is))
        (more_table k within s.table h.table size full);
    current = cc is;
    latest = λ kind. let from = last kind in let old = h.latest kind in grind (arith, from, is, old);
  }

  module _ (k : ℕ) (s : SegmentsAbove) (h : AreSegmentsAt lines a k s) where
    -- the segment that is open
    pub current_is : current_in s ≡ a.segment k
    current_is = cc (h.current, h.table.begun k (omega arith))

    -- the last absolute segments
    pub latest_is : (kind : Kind) → last_in s kind ≡ last_absolute a.segment kind k
    latest_is kind = ap (option_map (segment_in s.table)) (h.latest kind) ∙ back _ refl
      where
        back : (o : Option TextSegment) → last_absolute a.segment kind k ≡ o
            → option_map (segment_in s.table) (option_map (λ (t : TextSegment). t.id) o) ≡ o
        back None e = refl
        back (Some t) e = let r = last_is lines a f k kind t e in
            ap (λ t. Some t) (subst (λ (t : TextSegment). segment_in s.table t.id ≡ t) r.2 (h.table.begun r.0 r.1))

  -- past the last line the segment stays
  behind_empty : (k : ℕ) → length lines ≤ k → segment_behind lines a k ≡ a.segment k
  unfolding segment_behind
  behind_empty k h = rw (slice_get_past lines k h) refl

  stays_past : (n k : ℕ) → n + length lines ≡ k → a.segment k ≡ a.segment (length lines)
  stays_past zero k e = ap a.segment (omega (arith, e))
  stays_past (suc n) zero e = absurd (omega (arith, e))
  stays_past (suc n) (suc k) e =
      f.segments k ∙ behind_empty k (omega (arith, e)) ∙ stays_past n k (omega (arith, e))

  module _ (entries : List SegmentEntry) (h : IsSegmentTableAt lines a (length lines) entries) where
    begun_is : (k : ℕ) → (a.segment (suc k)).id ≡ suc (suc k)
        → segment_in entries (suc (suc k)) ≡ a.segment (suc k)
    begun_is k e = elim (cases_Bool (nat_lt k (length lines))) [
      | inl test ↦ ap (segment_in entries) (sym e) ∙ h.begun (suc k) (ltb-true k (length lines) test)
      | inr test ↦
          let past : length lines ≤ k = ltb-false k (length lines) test in
          let end = stays_past (suc k - length lines) (suc k) (omega (arith, past)) in
          let low = (known lines a f (length lines)).low in
          absurd (omega (arith, e, ap (λ (t : TextSegment). t.id) end, low, past))
    ]

    id_is : (k : ℕ) (b : BodyTree) → body_at lines k ≡ b
        → (declared_or lines k (a.segment (suc k)) b).id ≡ suc (suc k)
        → segment_in entries (suc (suc k)) ≡ declared_or lines k (a.segment (suc k)) b
    id_is k (body.Segment name kind reloc overlayable) is e =
        ap (segment_in entries) (sym (two_more k)) ∙ h.declared k name kind reloc overlayable is
    id_is k b is e = begun_is k e

    -- a segment of the text is at its id
    pub segment_is : (id : ℕ) → (segment_of lines a id).id ≡ id → segment_in entries id ≡ segment_of lines a id
    segment_is zero e = absurd (cc e)
    segment_is (suc zero) e =
        subst (λ (s : TextSegment). segment_in entries s.id ≡ s) f.first (h.begun 0 (omega arith))
    segment_is (suc (suc k)) e = id_is k (body_at lines k) refl e

-- The segments of a module and the numbers of ids, line by line.

filled_kept : (s : TextSegment) (size : ℕ) → kept_as s.id (segment_filled s size) ≡ if_filled s size
filled_kept s size = grind arith

number_pushed : (numbers : List ℕ) (number id : ℕ)
    → number_at (numbers ++ number ∷ []) id ≡ cond (length numbers == id) number (number_at numbers id)
number_pushed [] number id = grind arith
number_pushed (n ∷ numbers) number zero = grind (arith, nat_tests)
number_pushed (n ∷ numbers) number (suc id) = grind (arith, nat_tests, number_pushed numbers number id)

number_past_end : (numbers : List ℕ) → number_at numbers (length numbers) ≡ 0
number_past_end [] = refl
number_past_end (n ∷ numbers) = number_past_end numbers

suc_or_here : (p : Option ℕ) (b : Bool) (n : ℕ)
    → option_map (λ m. suc m) (or_here p (cond b (Some n) None))
    ≡ or_here (option_map (λ m. suc m) p) (cond b (Some (suc n)) None)
suc_or_here p b n = grind arith

-- the index of an id in a table with one more
index_pushed : (table : List ℕ) (new id : ℕ)
    → index_in (table ++ new ∷ []) id ≡ or_here (index_in table id) (cond (new == id) (Some (length table)) None)
index_pushed [] new id = refl
index_pushed (other ∷ table) new id = grind (arith, index_pushed table new id, suc_or_here)

no_index : (o : Option ℕ) → from_one o ≡ 0 → o ≡ None
no_index o h = grind arith

module _ {table : List Kept} {n : ℕ} {segments : List Segment} {numbers : List ℕ}
    (h : AreNumbered table n segments numbers) where
  -- the index of an id in the table
  abbrev index : ℕ → Option ℕ
  index id = index_in (map (λ s. s.id) table) id

  count_is : length segments ≡ length (map (λ (s : Kept). s.id) table)
  count_is = cc (h.same, length-map table (λ (s : Kept). s.segment), length-map table (λ (s : Kept). s.id))

  each_more : (o : Option Segment) (id : ℕ)
      → number_at (numbers ++ next_number (length segments) o ∷ []) id ≡ number_in (table ++ kept_as n o) id
  unfolding number_in
  each_more None id = grind (arith, nat_tests, number_pushed, number_past_end, h.each id, append-nil table)
  each_more (Some s) id =
      grind (
        arith,
        nat_tests,
        number_pushed,
        number_past_end,
        no_index,
        index_pushed,
        count_is,
        map-append,
        or_none,
        h.each id,
        h.counted,
      )

  more : (o : Option Segment)
      → AreNumbered (table ++ kept_as n o) (suc n) (segments ++ as_list o)
      (numbers ++ next_number (length segments) o ∷ [])
  more o = record {
    same = (λ i. h.same i ++ listed o i) ∙ sym (map-append (λ (s : Kept). s.segment) table (kept_as n o));
    counted = omega (arith, length-append numbers (next_number (length segments) o ∷ []), h.counted);
    each = each_more o;
  }
    where
      listed : (o : Option Segment) → as_list o ≡ map (λ (s : Kept). s.segment) (kept_as n o)
      listed None = refl
      listed (Some s) = refl

  -- with one segment more, or none, and the number of the next id
  pub numbered_more : (o : Option Segment) {next : List Kept} {m : ℕ} {added : List Segment} {new : List ℕ}
      → table ++ kept_as n o ≡ next → suc n ≡ m → added ≡ segments ++ as_list o
      → new ≡ numbers ++ next_number (length segments) o ∷ [] → AreNumbered next m added new
  numbered_more o p q r s = coe 0 1 (i. AreNumbered (p i) (q i) (sym r i) (sym s i)) (more o)

  -- no more than a module may have, if the table has no more with it
  pub few_more : (o : Option Segment) {next : List Kept} → table ++ kept_as n o ≡ next → length next ≤ 254
      → length segments + length (as_list o) ≤ 254
  few_more o p few =
      let len = length-map (table ++ kept_as n o) (λ (s : Kept). s.segment) in
      omega (arith, ap length p, len, ap length (more o).same, length-append segments (as_list o), few)

-- before the first line there is no segment, and 0 has the number 0
pub none_numbered : {segments : List Segment} {numbers : List ℕ} → segments ≡ [] → numbers ≡ 0 ∷ []
    → AreNumbered [] 1 segments numbers
unfolding number_in
none_numbered p q = coe 1 0 (i. AreNumbered [] 1 (p i) (q i)) (record { same = refl; counted = refl; each = each })
  where
    each : (id : ℕ) → number_at (0 ∷ []) id ≡ 0
    each zero = refl
    each (suc id) = refl

-- the first segment is not too many
pub few_first : (before : ℕ) (o : Option Segment) → before ≡ 0 → before + length (as_list o) ≤ 254
few_first before (Some s) h = omega (arith, h)
few_first before None h = omega (arith, h)

-- the first segment, by what is kept
pub kept_first : (lines : List LineTree) (a : Assignment) (o : Option Segment)
    → o ≡ segment_filled opening (size_of lines a 1) → kept_as 1 o ≡ kept_before lines a 0
unfolding kept_before
kept_first lines a o is = cc (filled_kept opening (size_of lines a 1))

-- an id that no line has gets nothing
nothing_filled : (lines : List LineTree) (a : Assignment) (id n : ℕ) → ((j : ℕ) → (a.segment j).id ≢ id)
    → filled lines a id n ≡ 0
unfolding filled
nothing_filled lines a id zero other = refl
nothing_filled lines a id (suc n) other =
    cc (filled_there lines a n id (ne_eqb _ _ (other n)), nothing_filled lines a id n other)

module _ (lines : List LineTree) (a : Assignment) (f : Fits lines a) (entries : List SegmentEntry)
    (h : IsSegmentTableAt lines a (length lines) entries) (k : ℕ) (within : k < length lines) where
  abbrev behind : TextSegment
  behind = a.segment (suc k)

  -- what a line adds to the segments
  added : (body : BodyTree) → body_at lines k ≡ body
      → kept_as (k + 2) (segment_added (segment_in entries (k + 2)) (size_in entries (k + 2)) body)
      ≡ kept_by lines a k body
  added (body.Segment name kind reloc overlayable) is = cc (h.sizes (k + 2))
  added body is = elim (cases_eq behind.id (k + 2)) [
    | inl e ↦
        let same : segment_in entries (k + 2) ≡ behind = ap (segment_in entries) (sym e) ∙ h.begun (suc k) within in
        cc (e, same, h.sizes (k + 2), filled_kept behind (size_of lines a behind.id), eq-eqb _ _ e)
    | inr ne ↦
        let own : segment_of lines a (k + 2) ≡ behind =
        ap (segment_of lines a) (two_more k) ∙ ap (declared_or lines k behind) is in
        let other : (j : ℕ) → (a.segment j).id ≢ k + 2 = λ j e.
        let same = sym own ∙ ap (segment_of lines a) (sym e) ∙ (known lines a f j).same in
        ne (ap (λ (t : TextSegment). t.id) same ∙ e) in
        cc (h.sizes (k + 2), nothing_filled lines a (k + 2) (length lines) other, ne_eqb _ _ ne)
  ]

  -- the segments with what one more line adds
  pub kept_more : (o : Option Segment) (body : BodyTree)
      → o ≡ segment_added (segment_in entries (k + 2)) (size_in entries (k + 2)) body → body ≡ body_at lines k
      → kept_before lines a k ++ kept_as (k + 2) o ≡ kept_before lines a (suc k)
  unfolding kept_before
  kept_more o body is said = cc (added body (sym said))
