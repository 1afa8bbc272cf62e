-- The parts of a sound layout are in order. The lines of a disassembly as they are read, and the segment and the place
-- of each under each assignment that fits.
use Rattle.m51_disasm_proof.proofs
use proofs.Common.{AllByRecursion, Assignment, BodyTree, CodeRange, Fits, HaveSizes, In, IsSound, IsSoundLayout, IsSpot}
use proofs.Common.{LayoutParts, LineTree, List, Meanings, None, Option, Some, SourceLine, Spot, TextSegment, [], above}
use proofs.Common.{ap, arith, body_at, common_steps, in_first, in_later, label_text, length, line_size, map, meant}
use proofs.Common.{opening, option_map, read_from, refl, runs_from, segment_after, slice_get, spots_from, subst, suc}
use proofs.Common.{sym, take, true, zero, ℕ, ◌+◌, ◌<◌, ◌==◌, ◌∙◌, ◌∷◌, ◌≡◌, ◌≢◌, ◌≤◌}
use Rattle.m51_asm.proofs.DefinedLines.{defined_more}
use Rattle.m51_asm.proofs.Members.{pairs_within}
use Rattle.m51_asm.specs.Assignment.{body_of}
use Rattle.m51_asm.specs.Definitions.{definition_from, definition_of, definitions_in, found_in, label_defined}
use Rattle.m51_asm.specs.Fitting.{filled, segment_behind, segment_by, size_at}
use Rattle.m51_cells.proofs.Meeting.{shared}
use Rattle.m51_cells.proofs.Members.{Pairs, at_in, contains_in, every_in, in_cases, in_filter, in_map, no_element}
use Rattle.m51_cells.proofs.Members.{pairs_append, pairs_filter, pairs_got, pairs_in, pairs_map}
use Rattle.m51_cells.specs.Extent.{Meet, extent_of}
use Rattle.m51_cells.specs.declared.kind.Kind.{Kind}
use Rattle.m51_disasm.proofs.Placing.{all_inside}
use Rattle.m51_disasm.specs.Parts.{IsInside, code_ranges, has_bytes, parts_below, placed_range, unit_ranges}
use Rattle.m51_disasm_proof.specs.Places.{place_after}
use Rattle.m51_expr.specs.Evaluation.{value_of}
use Rattle.m51_module.specs.Conflict.{FirstPlain}
use Rattle.m51_module.specs.Plan.{IsCodeSegment, IsPlaced}
use Rattle.m51_module.specs.declared.placed.Placed.{Placed}
use Rattle.m51_stmt.specs.Statement.{Empty}
use Rattle.std.proofs.Common.{◌⊎◌}
use Rattle.std.proofs.lemmas.Bool.{eqb-true}
use Rattle.std.proofs.lemmas.List.Elements.{All-contains}
use Rattle.std.specs.List.{filter}
use Rattle.m51_cells.specs.declared.kind.Kind.TheVariants as kind
use Rattle.m51_disasm.specs.declared.line.SourceLine.TheVariants as line
use Rattle.m51_cells.specs.declared.kind.Reloc.TheVariants as reloc
use proofs.StatementsRead.{size_is}

-- these parts lie in program memory, in order from an address on, and none overlaps another
abbrev pub AreInOrder : ℕ → List CodeRange → Type 0
AreInOrder low [] = Unit {0}
AreInOrder low (p ∷ ps) = (low ≤ p.base) × IsInside p × AreInOrder (p.base + p.size) ps

-- ---- two units share no byte

-- one of them ends before the other begins, where both have bytes
abbrev Apart : CodeRange → CodeRange → Type 0
Apart p q = 0 < p.size → 0 < q.size → (p.base + p.size ≤ q.base) ⊎ (q.base + q.size ≤ p.base)

-- two extents without a common cell
no_meeting : (a b m n : ℕ) → (Meet (extent_of kind.Code a m) (extent_of kind.Code b n) → ⊥) → 0 < m → 0 < n
    → (a + m ≤ b) ⊎ (b + n ≤ a)
no_meeting a b m n none some more =
    grind (arith, common_steps, shared (extent_of kind.Code a m) (extent_of kind.Code b n) refl)

module _ (l : LayoutParts) (sound : IsSoundLayout l) where
  abbrev unit_part : ℕ → CodeRange
  unit_part index = placed_range (slice_get l.placed index)

  placed_apart : (s t : ℕ) (p q : Placed) → s ≢ t → IsPlaced l s p → IsPlaced l t q → IsCodeSegment p → IsCodeSegment q
      → Apart (placed_range (Some p)) (placed_range (Some q))
  placed_apart s t p q ne one two code other =
      no_meeting p.base q.base p.size q.size
      (λ meet. sound.apart s t p q one two ne (FirstPlain (λ over. grind (arith, common_steps)))
      (rw (code.kind, other.kind) meet))

  units_apart : Pairs Apart (map unit_part l.units)
  units_apart = pairs_map unit_part Apart l.units
      (pairs_got (λ s t. Apart (unit_part s) (unit_part t)) l.units (λ u v s t less one two.
      let p = sound.is_code u s one in
      let q = sound.is_code v t two in
      let ne : s ≢ t = λ e. let same = sound.once u v t (one ∙ ap (λ x. Some x) e) two in omega arith in
      rw (p.1, q.1) (placed_apart s t p.0 q.0 ne p.1 q.1 p.2 q.2)))

  -- ---- in the order of their bases

  abbrev all : List CodeRange
  all = unit_ranges l

  all_apart : Pairs Apart all
  all_apart = pairs_filter Apart has_bytes (map unit_part l.units) units_apart

  -- the segment of one of them
  unit_of : (p : CodeRange) → In p all
      → (s : ℕ) × (x : Placed) × IsPlaced l s x × IsCodeSegment x × (placed_range (Some x) ≡ p)
  unit_of p i =
      let c = in_map unit_part l.units p (in_filter has_bytes (map unit_part l.units) p i).0 in
      let at = at_in l.units c.0 c.1 in
      let code = sound.is_code at.index c.0 at.got in
      (c.0, code.0, code.1, code.2, ap placed_range (sym code.1) ∙ c.2)

  two_apart : (p q : CodeRange) → (p ≡ q) ⊎ (Apart p q ⊎ Apart q p) → p ≢ q → Apart p q
  two_apart p q some ne = grind (arith, common_steps, some)

  inside : (p : CodeRange) → In p all → IsInside p
  inside p i = All-contains IsInside all p (all_inside l sound) (contains_in all p i)

  -- one of them ends before the other begins
  abbrev Before : CodeRange → CodeRange → Type 0
  Before p q = p.base + p.size ≤ q.base

  at_base : (n : ℕ) (p : CodeRange) → In p (filter (λ unit. unit.base == n) all) → In p all × (p.base ≡ n)
  at_base n p i = let r = in_filter (λ (unit : CodeRange). unit.base == n) all p i in (r.0, eqb-true p.base n r.1)

  below_from : (n : ℕ) (p : CodeRange) → In p (parts_below all n) → In p all × (p.base < n)
  unfolding parts_below
  below_from zero p i = absurd (no_element p i)
  below_from (suc n) p i =
      let here = filter (λ (unit : CodeRange). unit.base == n) all in
      grind (arith, in_cases (parts_below all n) here p i, below_from n p, at_base n p)

  in_turn : (p q : CodeRange) → p.base ≤ q.base → In p all → In q all → Apart p q → Before p q
  in_turn p q le i j apart =
      grind (arith, apart, inside p i, inside q j)

  below_ordered : (n : ℕ) → Pairs Before (parts_below all n)
  unfolding parts_below
  below_ordered zero = tt
  below_ordered (suc n) =
      let here : List CodeRange = filter (λ unit. unit.base == n) all in
      pairs_append Before (parts_below all n) here (below_ordered n)
      (pairs_within Apart Before here
      (λ p q i j apart. let a = at_base n p i in let b = at_base n q j in in_turn p q (omega arith) a.0 b.0 apart)
      (pairs_filter Apart (λ (unit : CodeRange). unit.base == n) all all_apart))
      (λ p q i j.
      let a = below_from n p i in
      let b = at_base n q j in
      let ne : p ≢ q = λ e. omega (arith, ap (λ (x : CodeRange). x.base) e) in
      in_turn p q (omega arith) a.0 b.0 (two_apart p q (pairs_in Apart all p q all_apart a.0 b.0) ne))

  in_order : (low : ℕ) (ps : List CodeRange) → ((p : CodeRange) → In p ps → low ≤ p.base)
      → ((p : CodeRange) → In p ps → IsInside p) → Pairs Before ps → AreInOrder low ps
  in_order low [] first ins h = tt
  in_order low (p ∷ ps) first ins h = (
    first p (in_first p ps),
    ins p (in_first p ps),
    in_order (p.base + p.size) ps (λ q i. every_in (Before p) ps q h.0 i) (λ q i. ins q (in_later q p ps i)) h.1,
  )

  pub parts_in_order : AreInOrder 0 (code_ranges l)
  unfolding code_ranges
  parts_in_order =
      in_order 0 (parts_below all 0x10000) (λ p i. omega arith) (λ p i. inside p (below_from 0x10000 p i).0)
      (below_ordered 0x10000)

  -- sizes of two bytes
  pub parts_small : HaveSizes l → (p : CodeRange) → In p (code_ranges l) → p.size < 65536
  unfolding code_ranges
  parts_small sizes p i =
      let x = unit_of p (below_from 0x10000 p i).0 in
      subst (λ (q : CodeRange). q.size < 65536) x.4 (sizes x.0 x.1 x.2)

-- ---- the lines as they are read

-- line k of a source as it is read
abbrev pub read_line : ℕ → SourceLine → LineTree
read_line k l = record { file = 0; line = k + 1; stmt = meant l }

-- these lines, the first of which is line k
abbrev pub read_at : ℕ → List SourceLine → List LineTree
read_at k [] = []
read_at k (l ∷ ls) = read_line k l ∷ read_at (suc k) ls

pub read_is : (k n : ℕ) (ls : List SourceLine) → n ≡ k + 1 → read_from n ls ≡ read_at k ls
read_is k n [] e = refl
read_is k n (l ∷ ls) e = grind (arith, common_steps, read_is (suc k) (n + 1) ls)

length_read : (k : ℕ) (ls : List SourceLine) → length (read_at k ls) ≡ length ls
length_read k [] = refl
length_read k (l ∷ ls) = ap suc (length_read (suc k) ls)

-- what holds of all that these lines say, and of nothing
pub body_read : (P : BodyTree → Type 0) → P Empty → ((l : SourceLine) → P (meant l).body)
    → (k : ℕ) (ls : List SourceLine) (j : ℕ) → P (body_at (read_at k ls) j)
body_read P none each k [] j = none
body_read P none each k (l ∷ ls) zero = each l
body_read P none each k (l ∷ ls) (suc j) = body_read P none each (suc k) ls j

-- the label of a line
abbrev pub label_of : SourceLine → Option ℕ
label_of (line.Statement s) = s.label
label_of other = None

abbrev pub LiesFrom : ℕ → Option ℕ → Type 0
LiesFrom low None = Unit {0}
LiesFrom low (Some address) = (low ≤ address) × (address < 65536)

abbrev pub after_label : ℕ → Option ℕ → ℕ
after_label low None = low
after_label low (Some address) = address + 1

-- these lines can be written, and their labels ascend from an address on
abbrev pub AreGood : ℕ → List SourceLine → Type 0
AreGood low [] = Unit {0}
AreGood low (l ∷ ls) = IsSound l × LiesFrom low (label_of l) × AreGood (after_label low (label_of l)) ls

pub are_sound : (low : ℕ) (ls : List SourceLine) → AreGood low ls → AllByRecursion IsSound ls
are_sound low [] h = tt
are_sound low (l ∷ ls) h = (h.0, are_sound (after_label low (label_of l)) ls h.2)

-- a line defines only its label
defines_label : (l : SourceLine) → definitions_in (meant l) ≡ label_defined (option_map label_text (label_of l))
defines_label = grind (arith, common_steps)

found_below : (address : ℕ) (o : Option ℕ) (low : ℕ) → after_label low o ≤ address → address < 65536
    → LiesFrom low o → found_in (label_defined (option_map label_text o)) (label_text address) ≡ None
found_below address None low h small lies = refl
found_below address (Some other) low h small lies = grind (arith, common_steps)

-- ---- segments and places

-- only CSEG begins a segment
segment_is : (lines : List LineTree) (k : ℕ) (names : Meanings) (last : Kind → Option TextSegment) (s : TextSegment)
    (l : SourceLine) → segment_by lines k names last s (meant l).body ≡ segment_after k s l
unfolding value_of
segment_is lines k names last s = grind (arith, common_steps)

-- a segment of an earlier line that is not open before a line is not open after it
pub other_segment : (k id : ℕ) (s : TextSegment) (l : SourceLine) → id < k + 2 → s.id ≢ id
    → (segment_after k s l).id ≢ id
other_segment k id s l low ne = grind (arith, common_steps)

-- an absolute segment of CODE
pub record IsCode (s : TextSegment) : Type 0 where
  pub kind_is : s.kind ≡ kind.Code
  pub fixed : s.reloc ≡ reloc.Abs

still_code : (k : ℕ) (s : TextSegment) (l : SourceLine) → IsCode s → IsCode (segment_after k s l)
still_code k s l h = grind (arith, common_steps)

-- The segment that is open at a line, how many bytes the lines before it give to that segment, and the least address
-- of which the line or a later one may be the label.
pub record State : Type 0 where
  pub segment : TextSegment
  pub given : ℕ
  pub low : ℕ

abbrev pub state : TextSegment → ℕ → ℕ → State
state segment given low = record { segment = segment; given = given; low = low }

abbrev pub given_after : ℕ → SourceLine → ℕ
given_after given (line.Segment base) = 0
given_after given l = given + line_size l

-- the state after line k
abbrev pub after : ℕ → State → SourceLine → State
after k s l = state (segment_after k s.segment l) (given_after s.given l) (after_label s.low (label_of l))

-- no line before line k gives to a segment
pub record IsFresh (lines : List LineTree) (a : Assignment) (k : ℕ) (ls : List SourceLine) (id : ℕ) : Type 0 where
  pub filled : filled lines a id k ≡ 0
  pub runs : runs_from lines a id 0 lines ≡ runs_from lines a id k (read_at k ls)

-- no line before line k defines the label of an address
pub record IsNew (lines : List LineTree) (k : ℕ) (ls : List SourceLine) (address : ℕ) : Type 0 where
  pub above : definition_of (take k lines) (label_text address) ≡ None
  pub found : definition_of lines (label_text address) ≡ definition_from k (read_at k ls) (label_text address)

-- the lines of a text from line k on, and what those before it have given and defined
pub record LinesFrom (lines : List LineTree) (a : Assignment) (k : ℕ) (s : State) (ls : List SourceLine) : Type 0 where
  pub fits : Fits lines a
  pub says : (j : ℕ) → slice_get lines (k + j) ≡ slice_get (read_at k ls) j
  pub count : length lines ≡ k + length ls
  pub good : AreGood s.low ls
  pub segment : a.segment k ≡ s.segment
  pub code : IsCode s.segment
  pub given : filled lines a s.segment.id k ≡ s.given
  pub known : s.segment.id < k + 2
  pub fresh : (id : ℕ) → k + 2 ≤ id → IsFresh lines a k ls id
  pub labels : (address : ℕ) → s.low ≤ address → address < 65536 → IsNew lines k ls address

-- the spot of the first of these lines
pub spot_here : {lines : List LineTree} {a : Assignment} {k : ℕ} {s : State} {ls : List SourceLine}
    → LinesFrom lines a k s ls
    → IsSpot a k (record { segment = s.segment; address = s.segment.base + s.given })
spot_here {k = k} h = grind (arith, common_steps, h.fits.places k)

module _ {lines : List LineTree} {a : Assignment} {k : ℕ} {s : State} {l : SourceLine} {ls : List SourceLine}
    (h : LinesFrom lines a k s (l ∷ ls)) where
  pub says_here : slice_get lines k ≡ Some (read_line k l)
  says_here = grind (arith, common_steps, h.says 0)

  pub body_is : body_at lines k ≡ (meant l).body
  body_is = ap body_of says_here

  pub size_is_of : size_at lines a k ≡ line_size l
  unfolding size_at
  size_is_of = grind (arith, common_steps, body_is, size_is (above lines a k) (a.form k) l h.good.0)

  next_segment : a.segment (suc k) ≡ segment_after k s.segment l
  unfolding segment_behind
  next_segment = grind (arith, common_steps, body_is, segment_is)

  -- the line gives to no other segment
  pub passes : (id : ℕ) → s.segment.id ≢ id → filled lines a id (suc k) ≡ filled lines a id k
  unfolding filled
  passes id ne = grind (arith, common_steps)

  pub skips : (id : ℕ) → s.segment.id ≢ id
      → runs_from lines a id k (read_at k (l ∷ ls)) ≡ runs_from lines a id (suc k) (read_at (suc k) ls)
  skips id ne = grind (arith, common_steps)

  pub is_open : ((a.segment k).id == s.segment.id) ≡ true
  is_open = grind (arith, common_steps)

  pub adds : filled lines a s.segment.id (suc k) ≡ s.given + line_size l
  unfolding filled
  adds = grind (arith, common_steps, is_open, size_is_of)

  fresh_next : (id : ℕ) → k + 2 ≤ id → IsFresh lines a (suc k) ls id
  fresh_next id le =
      let ne : s.segment.id ≢ id = λ e. omega arith in
      grind (arith, common_steps, h.fresh id le, passes id ne, skips id ne)

  labels_next : (address : ℕ) → after_label s.low (label_of l) ≤ address → address < 65536
      → IsNew lines (suc k) ls address
  labels_next address from small =
      let none = found_below address (label_of l) s.low from small h.good.1 in
      let more = defined_more lines k (read_line k l) (label_text address) says_here in
      grind (arith, common_steps, defines_label l)

  -- the lines from the next one on
  pub next : LinesFrom lines a (suc k) (after k s l) ls
  next = record {
    fits = h.fits;
    says = λ j. grind (arith, common_steps, h.says (suc j));
    count = omega arith;
    good = h.good.2;
    segment = next_segment;
    code = still_code k s.segment l h.code;
    given = let new = fresh_next (k + 2) (omega arith) in grind (arith, common_steps, adds);
    known = let below = h.known in grind (arith, common_steps);
    fresh = λ id le. fresh_next id (omega arith);
    labels = labels_next;
  }

-- all lines
pub at_start : (ls : List SourceLine) (a : Assignment) → Fits (read_at 0 ls) a → AreGood 0 ls
    → LinesFrom (read_at 0 ls) a 0 (state opening 0 0) ls
unfolding filled definition_of
at_start ls a f good = grind (arith, common_steps, length_read 0 ls)

-- each line is in its spot
pub spots_are : {lines : List LineTree} {a : Assignment} (ls : List SourceLine) {k : ℕ} {s : State} (address n : ℕ)
    → LinesFrom lines a k s ls → address ≡ s.segment.base + s.given → (j : ℕ) (spot : Spot)
    → slice_get (spots_from k s.segment address ls) j ≡ Some spot → n ≡ k + j → IsSpot a n spot
spots_are [] address n h at j spot e is = absurd (cc e)
spots_are (l ∷ ls) address n h at zero spot e is = grind (arith, common_steps, spot_here h)
spots_are (l ∷ ls) address n h at (suc j) spot e is =
    spots_are ls (place_after address l) n (next h) (grind (arith, common_steps)) j spot e (omega arith)
