-- The module of a text without faults is valid: its names are written and differ, its pieces and fixups lie in order in
-- their segments; so is that of each answer.
use Rattle.m51_asm.proofs
use Rattle.m51_asm.specs
use proofs.Common.{◌≡◌, ℕ, zero, suc, ◌≤◌, Bool, true, false, cond, List, [], ◌∷◌, length, map, filter, take, Some}
use proofs.Common.{refl, sym, arith, and_parts, length-take, list_all, and_from, length-take-le, cases_eq, ◌⊎◌, inl}
use proofs.Common.{inr, ◌+◌, ◌/◌, ◌-◌, ◌<◌, min, drop, subst, ◌∙◌, length-append, eq-eqb, ne_eqb, flat_map, nat_le}
use proofs.Common.{range_with_len, Piece, ◌*◌, length-drop, cases_lt, cases_Bool, ◌==◌, ap, eqb-true, LineTree}
use proofs.Common.{TextSegment, Assignment, length-map, Fixup, made_before, ◌≢◌, Kind, BodyTree, Each, body_at}
use proofs.Common.{externals, name_in, Option, Ok, Err, Base, same_kind, kind_same, Value, externals_by, PublicSegment}
use proofs.Common.{None, Field, Segment, Meanings, Linked, Reference, ◌%◌, list_any, IsValid, SourceFile, AreFree, Fits}
use proofs.Common.{content_faults, Fault, Row, not, ◌&&◌, ◌||◌, or_right, is_selected, All, ModuleParts, placed_fault}
use proofs.Common.{same_Some}
use Rattle.m51_cells.specs.Name.{is_name_byte, is_name, name_of, IsWritten}
use specs.Naming.{with_front, module_name}
use Rattle.std.specs.Char.{is_ascii_digit, to_ascii_uppercase}
use Rattle.m51_cells.proofs.NameLaws.{name_from_parts, name_written}
use Rattle.m51_module.specs.Validity.{LiesBefore, Apart as LieApart, Touching, numbered, field_len, EarlierSegment}
use Rattle.m51_module.specs.Validity.{IsPieceValid, IsHeld, FieldBefore, EarlierSegmentOf, BeforeIn, Differ}
use Rattle.m51_module.specs.Validity.{IsPublicBase, IsPublicValid, IsTarget, IsFixupValid, IsVersion, IsSegmentValid}
use specs.Pieces.{Run, if_bytes, pieces_of_run, piece_at, offset_at, pieces, fixups, content_at, runs_from}
use specs.Pieces.{segment_pieces, fixup_of, line_fixups, fixups_from}
use Rattle.m51_cells.proofs.Members.{In, Pairs, every_of, in_left, in_map, in_range, in_right, map_in, pairs_map}
use Rattle.m51_cells.proofs.Members.{pairs_range, range_in, contains_in, flat_in, in_flat, pairs_append, pairs_flat}
use Rattle.m51_cells.proofs.Members.{every_in, pairs_all}
use proofs.Members.{pairs_within, in_both, all_in}
use Rattle.std.proofs.lemmas.Grind.{common_steps}
use specs.ObjectSegments.{kept, Kept, object_segments, segment_of, segment_number, final}
use specs.Content.{ReferenceAt}
use specs.Fitting.{filled, size_at}
use proofs.GoodLines.{IsClean, free_text, IsGood, free, clean_where, clean}
use proofs.KnownSegments.{known, filled_here, filled_up, AreKept, all_kept, leads_to, numbers_ascend, sum_of, share}
use proofs.KnownSegments.{few_in_all, IsNamed, Nameless, DeclaredAt, has_number, IsRest, all_lines}
use proofs.KnownSegments.{relocatable_numbered, externals_count, few_segments, few_externals}
use proofs.ContentFields.{given, made_most}
use specs.Definitions.{SegmentOf, ExternOf, externals_from, defined_by, definition_of}
use specs.Repeats.{publics_in}
use Rattle.m51_module.specs.declared.symbol.External.{External}
use specs.Parts.{name_by, publics_by, publics_before, version_of, parts}
use proofs.DefinedLines.{Apart, IsOnce, once, publics_once}
use Rattle.m51_module.specs.declared.symbol.Public.{Public}
use Rattle.m51_emit.specs.PublicNames.{public_of_value}
use Rattle.m51_emit.specs.declared.publics.Definer.{Definer}
use specs.PublicNames.{Published, public_by, published, if_public, publics_of, definer_by, numbered_as, base_segment}
use specs.PublicNames.{counted_from}
use Rattle.m51_encode.proofs.BitNumbers.{linked_is, references_have_bits}
use Rattle.m51_text.specs.Answer.{Lines, text_of, TextTree, Faults as TextFaults}
use specs.AnswerRows.{rows_from}
use specs.Answer.{first_fault, content_or_faults, AnswerTree, Gives, Faults as AnswerFaults, placed_or_fault}
use specs.Answer.{IsAnswerOf, answer_of_lines}
use Rattle.std.proofs.lemmas.Option.{slice_get_cases}
use Rattle.m51_encode.specs.Bases.{object_base, is_linked}
use Rattle.m51_encode.specs.FieldValues.{field_of}
use proofs.BasedNames.{AreBased, value_based, IsDeclaredBase, name_good, place_good, IfBased}
use specs.ValidTexts.{PartsAreValid, IsRowOfText, CanBeGiven, AnswersAreValid}
use Rattle.std.proofs.lemmas.List.Elements.{All-nil, All-cons, All-head, All-tail}
use Rattle.m51_text.specs.Laws.{IsLineOf}
use Rattle.m51_text.proofs.Numbered.{lines_are_of_files}
use proofs.AnAssignment.{fitting, fits}
use Rattle.m51_cells.specs.declared.kind.Kind.TheVariants as kind
use Rattle.m51_stmt.specs.Statement as body
use Rattle.m51_cells.specs.declared.kind.Base.TheVariants as base

all_filter : (p : ℕ → Bool) (xs : List ℕ) → list_all p (filter p xs) ≡ true
all_filter p [] = refl
all_filter p (x ∷ xs) = grind (arith, all_filter p xs)

all_take : (p : ℕ → Bool) (n : ℕ) (xs : List ℕ) → list_all p xs ≡ true → list_all p (take n xs) ≡ true
all_take p (suc n) (x ∷ xs) h = grind (arith, all_take p n xs)
all_take p n xs h = grind arith

pub whole_front : (n : ℕ) (xs : List ℕ) → n ≤ length xs → n ≡ length (take n xs)
whole_front n xs le = sym (length-take-le n xs le)

is_few : (n : ℕ) → n ≤ 31 → nat_le n 31 ≡ true
is_few n h = grind arith

front_named : (first : ℕ) (more : List ℕ) → is_ascii_digit first ≡ false → is_name_byte first ≡ true
    → list_all is_name_byte more ≡ true → is_name (take 31 (first ∷ more)) ≡ true
front_named first more digit byte all =
    let short : length (take 31 (first ∷ more)) ≤ 31 = omega (arith, length-take 31 (first ∷ more)) in
    name_from_parts first (take 30 more) (record {
      digit = digit;
      most = is_few _ short;
      bytes = and_from _ _ byte (all_take is_name_byte 30 more all);
    })

front_is_name : (bytes : List ℕ) → list_all is_name_byte bytes ≡ true → is_name (take 31 (with_front bytes)) ≡ true
front_is_name [] h = refl
front_is_name (x ∷ xs) h = let q = and_parts (is_name_byte x) _ h in elim (cases_Bool (is_ascii_digit x)) [
  | inl e ↦ rw e (front_named 0x4D (x ∷ xs) refl refl h)
  | inr e ↦ rw e (front_named x xs e q.0 q.1)
]

-- the first 31 of a file's name characters, with M before them, are a name
pub file_named : (text : List ℕ) → name_of (take 31 (with_front (filter is_name_byte text)))
    ≡ Some (map to_ascii_uppercase (take 31 (with_front (filter is_name_byte text))))
file_named text = grind (arith, front_is_name, all_filter)

pub ruleset module_named = (file_named, same_Some, name_written)

-- Runs of bytes that lie one after another, and the pieces that they are cut into.

-- a run that lies between two offsets
abbrev pub IsRun : ℕ → ℕ → Run → Type 0
IsRun from to r = (from ≤ r.0) × (r.0 + length r.1 ≤ to)

-- runs between two offsets, of which none touches the next
abbrev pub AreRuns : ℕ → ℕ → List Run → Type 0
AreRuns from to [] = Unit {0}
AreRuns from to (r ∷ more) = IsRun from to r × AreRuns (suc (r.0 + length r.1)) to more

pub runs_lower : (low from to : ℕ) (runs : List Run) → low ≤ from → AreRuns from to runs → AreRuns low to runs
runs_lower low from to [] h are = tt
runs_lower low from to (r ∷ more) h are = (omega arith, are.1)

-- bytes before runs are runs
pub runs_before : (low at to : ℕ) (bytes : List ℕ) (runs : List Run) → low ≤ at → at + length bytes ≤ to
    → AreRuns (at + length bytes) to runs → AreRuns low to (if_bytes at bytes runs)
runs_before low at to b runs low_at within are =
    grind (arith, runs_lower, common_steps, cases_eq, length-append, eq-eqb, ne_eqb)

-- an earlier run ends before a later one begins
abbrev pub IsBefore : Run → Run → Type 0
IsBefore r q = r.0 + length r.1 < q.0

pub run_in : (from to : ℕ) (runs : List Run) → AreRuns from to runs → (r : Run) → In r runs → IsRun from to r
run_in from to [] are r i = absurd i
run_in from to (q ∷ more) are r (inl e) = grind arith
run_in from to (q ∷ more) are r (inr j) = omega (arith, run_in (suc (q.0 + length q.1)) to more are.1 r j)

pub runs_pairs : (from to : ℕ) (runs : List Run) → AreRuns from to runs → Pairs IsBefore runs
runs_pairs from to [] are = tt
runs_pairs from to (q ∷ more) are = (
  every_of (IsBefore q) more (λ r i. (run_in _ _ _ are.1 r i).0),
  runs_pairs (suc (q.0 + length q.1)) to more are.1,
)

-- a run has a byte at an offset
pub record Covers (r : Run) (offset : ℕ) : Type 0 where
  pub from : r.0 ≤ offset
  pub below : offset < r.0 + length r.1

-- one of these runs has
abbrev pub Hold : List Run → ℕ → Type 0
Hold [] offset = ⊥
Hold (r ∷ runs) offset = Covers r offset ⊎ Hold runs offset

-- the bytes before runs, and what these have, are in a run
pub still_held : (at : ℕ) (bytes : List ℕ) (runs : List Run) (offset : ℕ)
    → Covers (at, bytes) offset ⊎ Hold runs offset → Hold (if_bytes at bytes runs) offset
still_held at b runs offset h = grind (arith, cases_eq, length-append, eq-eqb)

-- how many pieces a run is cut into
abbrev count : Run → ℕ
count r = (length r.1 + 1023) / 1024

-- a piece of a run
pub record IsOfRun (segment : ℕ) (r : Run) (p : Piece) : Type 0 where
  pub segment_is : p.segment ≡ segment
  pub from : r.0 ≤ p.offset
  pub some : 0 < length p.bytes
  pub most : length p.bytes ≤ 1024
  pub within : p.offset + length p.bytes ≤ r.0 + length r.1

piece_len : (segment : ℕ) (r : Run) (i : ℕ) → length (piece_at segment r i).bytes ≡ min 1024 (length r.1 - 1024 * i)
piece_len segment r i = cc (length-take 1024 (drop (1024 * i) r.1), length-drop (1024 * i) r.1)

below_all : (n i : ℕ) → i < (n + 1023) / 1024 → 1024 * i < n
below_all n i h = omega arith

of_run : (segment : ℕ) (r : Run) (i : ℕ) → i < count r → IsOfRun segment r (piece_at segment r i)
of_run segment r i h =
    let len = piece_len segment r i in
    let below = below_all _ _ h in
    omega arith

pub piece_of_run : (segment : ℕ) (r : Run) (p : Piece) → In p (pieces_of_run segment r) → IsOfRun segment r p
piece_of_run segment r p h =
    let c = in_map _ _ _ h in let i = in_range _ _ _ c.1 in rw (← c.2) (of_run _ _ _ (omega arith))

lie_so : (segment : ℕ) (r : Run) (i j : ℕ) → i < j → j < count r
    → LiesBefore (piece_at segment r i) (piece_at segment r j)
lie_so segment r i j less below =
    let last = below_all _ _ below in
    let one : length (piece_at segment r i).bytes ≡ 1024 = omega (arith, piece_len segment r i) in
    elim (cases_lt (i + 1) j) [
      | inl l ↦ LieApart refl (omega arith)
      | inr g ↦ Touching refl (omega arith) one
    ]

pub pieces_in_order : (segment : ℕ) (r : Run) → Pairs LiesBefore (pieces_of_run segment r)
pieces_in_order segment r = pairs_map _ _ _ (pairs_within _ _ _ (λ i j from to less.
    let k = in_range _ _ _ to in lie_so segment r i j less (omega arith)) (pairs_range (count r) 0))

-- the pieces of two runs, of which one ends before the other begins
pub runs_in_order : (segment : ℕ) (r q : Run) → IsBefore r q → (p o : Piece) → In p (pieces_of_run segment r)
    → In o (pieces_of_run segment q) → LiesBefore p o
runs_in_order segment r q before p o in_p in_o = grind (arith, piece_of_run)

-- a piece of a segment has a byte at an offset
abbrev pub HoldsAt : ℕ → ℕ → Piece → Type 0
HoldsAt segment offset p = (p.segment ≡ segment) × Covers (p.offset, p.bytes) offset

run_is_cut : (segment : ℕ) (r : Run) (offset : ℕ) → Covers r offset
    → (p : Piece) × In p (pieces_of_run segment r) × HoldsAt segment offset p
run_is_cut segment r offset c =
    let i = (offset - r.0) / 1024 in
    let lower : 1024 * i ≤ offset - r.0 = omega arith in
    let upper : offset - r.0 < 1024 * i + 1024 = omega arith in
    let few : i < count r = omega arith in
    let len = piece_len segment r i in
    (piece_at segment r i, map_in _ _ _ (range_in _ _ _ (omega arith) (omega arith)), omega arith)

-- what runs have is in one of their pieces
pub runs_cut : (segment : ℕ) (runs : List Run) (offset : ℕ) → Hold runs offset
    → (p : Piece) × In p (flat_map (pieces_of_run segment) runs) × HoldsAt segment offset p
runs_cut segment [] offset h = absurd h
runs_cut segment (r ∷ runs) offset (inl c) =
    let p = run_is_cut _ _ _ c in
    (p.0, in_left _ _ _ p.1, p.2)
runs_cut segment (r ∷ runs) offset (inr h) =
    let p = runs_cut segment runs offset h in
    (p.0, in_right _ _ _ p.1, p.2)

-- The pieces of the module of a text, each in a segment of program memory, in their order, with what the lines give;
-- and its fixups: their fields lie in pieces, one after another, and they are not too many.

-- what a line gives to its segment ends where the next begins
pub ends_by : (lines : List LineTree) (a : Assignment) (k id : ℕ) → ((a.segment k).id == id) ≡ true
    → length (content_at lines a k).bytes ≤ size_at lines a k
    → offset_at lines a k + length (content_at lines a k).bytes ≤ filled lines a id (suc k)
ends_by lines a k id test within =
    let at = ap (λ i. filled lines a i k) (eqb-true _ _ test) in
    omega (arith, filled_here lines a id k test)

no_bytes : (at : ℕ) (bytes : List ℕ) (rest : List Run) → length bytes ≡ 0 → if_bytes at bytes rest ≡ rest
no_bytes at bytes rest e = grind arith

module _ (lines : List LineTree) (a : Assignment) (c : IsClean lines a) where
  abbrev bytes_at : ℕ → List ℕ
  bytes_at k = (content_at lines a k).bytes

  abbrev held_in : ℕ → ℕ → ℕ
  held_in id k = filled lines a id k

  pub line_ends : (k id : ℕ) → k < length lines → ((a.segment k).id == id) ≡ true
      → offset_at lines a k + length (bytes_at k) ≤ held_in id (suc k)
  line_ends k id below test = ends_by _ _ _ _ test (given lines a c k below).within

  -- a line from line k on gives a byte of this offset to a segment
  record GivesByte (id line offset : ℕ) : Type 0 where
    below : line < length lines
    here : (a.segment line).id ≡ id
    covers : Covers (offset_at lines a line, bytes_at line) offset

  abbrev GivesFrom : ℕ → ℕ → ℕ → Type 0
  GivesFrom id k offset = (line : ℕ) × (k ≤ line) × GivesByte id line offset

  -- runs of what the lines from line k on give to a segment, which is one of program memory
  record AreRunsOf (id k : ℕ) (rs : List Run) : Type 0 where
    runs : AreRuns (held_in id k) (held_in id (length lines)) rs
    code : (r : Run) → In r rs → (j : ℕ) × ((a.segment j).id ≡ id) × ((a.segment j).kind ≡ kind.Code)
    hold : (offset : ℕ) → GivesFrom id k offset → Hold rs offset

  are_of : (id k : ℕ) (ls : List LineTree) → k + length ls ≡ length lines → AreRunsOf id k (runs_from lines a id k ls)
  are_of id k [] e = record {
    runs = tt;
    code = λ r i. absurd i;
    hold = λ offset g. absurd (omega (arith, g.2.below));
  }
  are_of id k (l ∷ ls) e =
      let rs = runs_from lines a id (suc k) ls in
      let at = offset_at lines a k in
      let h = are_of id (suc k) ls (omega arith) in
      let below : k < length lines = omega arith in
      elim (cases_Bool ((a.segment k).id == id)) [
        | inr test ↦ rw test (record {
          runs = runs_lower _ _ _ _ (filled_up lines a id k (suc k) (omega arith)) h.runs;
          code = h.code;
          hold = λ offset g. elim (cases_eq k g.0) [
            | inl e ↦ absurd (cc (test, eq-eqb _ _ (ap (λ n. (a.segment n).id) e ∙ g.2.here)))
            | inr ne ↦ h.hold offset (g.0, omega arith, g.2)
          ];
        })
        | inl test ↦
            let same : (a.segment k).id ≡ id = eqb-true _ _ test in
            let at_is = ap (λ i. held_in i k) same in
            let end = line_ends k id below test in
            let up = filled_up lines a id (suc k) (length lines) below in
            rw test (record {
              runs = runs_before (held_in id k) at (held_in id (length lines)) (bytes_at k) rs (omega arith)
                  (omega arith)
                  (runs_lower _ _ _ _ end h.runs);
              code = λ r i. elim (given lines a c k below).code [
                | inl none ↦ h.code r (subst (In r) (no_bytes _ _ _ none) i)
                | inr code ↦ (k, same, code)
              ];
              hold = λ offset g. still_held at (bytes_at k) rs offset (elim (cases_eq k g.0) [
                | inl e ↦ inl (rw e g.2.covers)
                | inr ne ↦ inr (h.hold offset (g.0, omega arith, g.2))
              ]);
            })
      ]

  abbrev runs_of : Kept → List Run
  runs_of s = runs_from lines a s.id 0 lines

  abbrev number : Kept → ℕ
  number s = segment_number lines a s.id

  of_segment : (s : Kept) → AreRunsOf s.id 0 (runs_of s)
  of_segment s = are_of s.id 0 lines (omega arith)

  abbrev all : AreKept lines a (free_text lines a c) (suc (length lines)) (kept lines a)
  all = all_kept lines a (free_text lines a c)

  -- a piece of a segment is one of its runs
  cut : (s : Kept) (p : Piece) → In p (segment_pieces lines a s) → (r : Run) × In r (runs_of s) × IsOfRun (number s) r p
  cut s p i = let r = in_flat _ _ _ i in (r.0, r.1, piece_of_run _ _ _ r.2)

  pub pieces_valid : (p : Piece) → In p (pieces lines a) → IsPieceValid (object_segments lines a) p
  pieces_valid p i =
      let f = in_flat _ _ _ i in
      let s = f.0 in
      let o = cut s p f.2 in
      let piece = o.2 in
      let of = of_segment s in
      let run = run_in _ _ _ of.runs o.0 o.1 in
      let is_kept = all.every s f.1 in
      let code = of.code o.0 o.1 in
      record {
        some = piece.some;
        most = piece.most;
        segment = s.segment;
        is = ap (numbered (object_segments lines a)) piece.segment_is ∙ leads_to _ all.order s f.1;
        code = is_kept.kind_is ∙ ap (λ i. (segment_of lines a i).kind) (sym code.1)
            ∙ ap (λ (t : TextSegment). t.kind) (known lines a c.fits code.0).same ∙ code.2;
        inside = omega arith;
      }

  pub pieces_ordered : Pairs LiesBefore (pieces lines a)
  pieces_ordered = pairs_flat _ _ _ _ (numbers_ascend _ all.order) (λ s i. pairs_flat _ _ _ _
      (runs_pairs _ _ _ (of_segment s).runs)
      (λ r j. pieces_in_order (number s) r) (λ r q j k. runs_in_order (number s) r q))
      (λ s t i j less p q in_p in_q.
      EarlierSegment (omega (arith, (cut s p in_p).2.segment_is, (cut t q in_q).2.segment_is)))

  -- a byte that a line gives to a segment of the module is in a piece
  pub line_held : (s : Kept) → In s (kept lines a) → (k offset : ℕ) → k < length lines → (a.segment k).id ≡ s.id
      → Covers (offset_at lines a k, bytes_at k) offset → IsHeld (pieces lines a) (number s) offset
  line_held s i k offset below here covers =
      let p = runs_cut (number s) _ _ ((of_segment s).hold offset
      (k, omega arith, record { below = below; here = here; covers = covers })) in
      record {
        piece = p.0;
        is = contains_in _ _ (flat_in (segment_pieces lines a) _ _ _ i p.1);
        same = p.2.0;
        from = p.2.1.from;
        below = p.2.1.below;
      }

  abbrev references : ℕ → List ReferenceAt
  references k = (content_at lines a k).references

  -- the fixup of a reference of line k
  abbrev made_fixup : Kept → ℕ → ReferenceAt → Fixup
  made_fixup s k = fixup_of (object_segments lines a) (number s) (offset_at lines a k)

  -- a fixup of a line in a segment of the module
  pub record IsOfLine (s : Kept) (line : ℕ) (f : Fixup) : Type 0 where
    pub below : line < length lines
    pub here : (a.segment line).id ≡ s.id
    pub reference : ReferenceAt
    pub there : In reference (references line)
    pub is : made_fixup s line reference ≡ f

  -- a fixup of a line from line k on
  abbrev pub IsFrom : Kept → ℕ → Fixup → Type 0
  IsFrom s k f = (line : ℕ) × (k ≤ line) × IsOfLine s line f

  -- how many fixups the lines before line k give to a segment
  abbrev given_to : Kept → ℕ → ℕ
  given_to s k = share (λ j. (a.segment j).id) (λ j. length (references j)) s.id k

  -- the fixups that the lines from line k on give to a segment
  record AreFixups (s : Kept) (k : ℕ) (fs : List Fixup) : Type 0 where
    each : (f : Fixup) → In f fs → IsFrom s k f
    order : Pairs FieldBefore fs
    count : given_to s k + length fs ≡ given_to s (length lines)

  -- a field of a line lies before those of later lines
  lies_before : (s : Kept) (k : ℕ) → k < length lines → (a.segment k).id ≡ s.id → (f g : Fixup)
      → In f (line_fixups lines a (number s) k) → IsFrom s (suc k) g → FieldBefore f g
  lies_before s k below here f g i o =
      let r = in_map _ _ _ i in
      let inside = (given lines a c k below).content.inside r.0 r.1 in
      let end = line_ends k s.id below (eq-eqb _ _ here) in
      let up = filled_up lines a s.id (suc k) o.0 o.1 in
      let at = ap (λ i. filled lines a i o.0) o.2.here in
      rw (← r.2, ← o.2.is) (BeforeIn refl (omega arith))

  are_fixups : (s : Kept) (k : ℕ) (ls : List LineTree) → k + length ls ≡ length lines
      → AreFixups s k (fixups_from lines a s k ls)
  unfolding sum_of
  are_fixups s k [] e = grind arith
  are_fixups s k (l ∷ ls) e =
      let fs = fixups_from lines a s (suc k) ls in
      let h = are_fixups s (suc k) ls (omega arith) in
      let below : k < length lines = omega arith in
      let later : (f : Fixup) → In f fs → IsFrom s k f = λ f i. let o = h.each f i in (o.0, omega arith, o.2) in
      elim (cases_Bool ((a.segment k).id == s.id)) [
        | inr test ↦
            rw test (record { each = later; order = h.order; count = omega (arith, rw test at h.count) })
        | inl test ↦
            let here = eqb-true _ _ test in
            let len = length-append (map (made_fixup s k) (references k)) fs in
            let mapped = length-map (references k) (made_fixup s k) in
            rw test (record {
              each = in_both (IsFrom s k) (line_fixups lines a (number s) k) fs (λ f i.
                  let r = in_map _ _ _ i in (
                    k,
                    omega arith,
                    record { below = below; here = here; reference = r.0; there = r.1; is = r.2 },
                  )) later;
              order = pairs_append _ _ _ (pairs_map _ _ _ (pairs_within _ _ _
                  (λ r q i j e. BeforeIn refl (omega arith)) (given lines a c k below).content.order)) h.order
                  (λ f g i j. lies_before s k below here f g i (h.each g j));
              count = omega (arith, rw test at h.count);
            })
      ]

  fixups_in : (s : Kept) → AreFixups s 0 (fixups_from lines a s 0 lines)
  fixups_in s = are_fixups s 0 lines (omega arith)

  -- a fixup of the module
  abbrev pub IsOfText : Fixup → Type 0
  IsOfText f = (s : Kept) × In s (kept lines a) × IsFrom s 0 f

  pub of_text : (f : Fixup) → In f (fixups lines a) → IsOfText f
  of_text f i = let r = in_flat _ _ _ i in (r.0, r.1, (fixups_in r.0).each f r.2)

  -- pieces hold each byte of a fixup's field
  pub held : (f : Fixup) → IsOfText f → (k : ℕ) → k < field_len f.form
      → IsHeld (pieces lines a) f.segment (f.offset + k)
  held f t k less =
      let o = t.2.2 in
      let short = rw (← o.is) at less in
      let line = t.2.0 in
      let inside = (given lines a c line o.below).content.inside o.reference o.there in
      rw (← o.is) (line_held t.0 t.1 line (offset_at lines a line + o.reference.0 + k) o.below o.here
      (omega arith))

  pub fixups_ordered : Pairs FieldBefore (fixups lines a)
  fixups_ordered = pairs_flat _ _ _ _ (numbers_ascend _ all.order)
      (λ s i. (fixups_in s).order)
      (λ s t i j less f g in_f in_g.
      EarlierSegmentOf (rw (← ((fixups_in s).each f in_f).2.is, ← ((fixups_in t).each g in_g).2.is) less))

  pub few_fixups : length (fixups lines a) ≤ 65535
  unfolding sum_of
  few_fixups =
      let few = few_in_all (λ j. (a.segment j).id) (λ j. length (references j)) (made_before lines a) (length lines)
      (λ k below. (given lines a c k below).few) (λ s. fixups_from lines a s 0 lines)
      (kept lines a) all.order
      (λ s i. omega (arith, (fixups_in s).count)) in
      omega (arith, made_most lines a c (length lines) (omega arith))

-- The names of the module of a text: the module's own, those of its externals and segments, and its publics with what
-- they count from.

-- the name that a file gives is written
pub file_written : (file : List ℕ) → IsWritten (module_name file)
unfolding module_name
file_written file = grind (arith, name_written, file_named)

written_by : (other : List ℕ) (b : BodyTree) → IsGood b → IsWritten other → IsWritten (name_by other b)
written_by other b good is = grind arith

pub name_is_written : (other : List ℕ) (ls : List LineTree) → ((k : ℕ) → IsGood (body_at ls k)) → IsWritten other
    → IsWritten (name_in other ls)
name_is_written other [] good is = is
name_is_written other (l ∷ ls) good is = written_by _ _ (good 0) (name_is_written other ls (λ k. good (suc k)) is)

-- externals by the numbers of lines
abbrev given_at : List LineTree → ℕ → List External
given_at lines k = externals_by (body_at lines k)

flat_from : (lines ls : List LineTree) (n : ℕ) → IsRest lines n ls
    → externals ls ≡ flat_map (given_at lines) (range_with_len n (length ls))
flat_from lines [] n rest = refl
flat_from lines (l ∷ ls) n rest =
    cc (rest 0 n (omega arith), flat_from lines ls (n + 1) (λ j k e. rest (suc j) k (omega arith)))

externals_flat : (lines : List LineTree) → externals lines ≡ flat_map (given_at lines) (range_with_len 0 (length lines))
externals_flat lines = flat_from lines lines 0 (all_lines lines)

pub each_in : {A : Type 0} (P : A → Type 0) (xs : List A) → Each P xs → (x : A) → In x xs → P x
each_in P [] h x i = absurd i
each_in P (y ∷ xs) h x (inl e) = subst P e h.0
each_in P (y ∷ xs) h x (inr j) = each_in P xs h.1 x j

is_extern : (xs : List (List ℕ × Kind)) (n : ℕ) (x : List ℕ × Kind) → In x xs
    → (m : ℕ) × In (x.0, ExternOf x.1 m) (externals_from n xs)
is_extern [] n x i = absurd i
is_extern (y ∷ xs) n x (inl e) = (n, inl (λ j. ((e j).0, ExternOf (e j).1 n)))
is_extern (y ∷ xs) n x (inr j) = let r = is_extern xs (suc n) x j in (r.0, inr r.1)

-- an external of a line is defined there
external_defined : (b : BodyTree) (e : External) → In e (externals_by b)
    → (number : ℕ) × In (e.name, ExternOf e.kind number) (defined_by b)
external_defined (body.Extrn xs) e i =
    let c = in_map _ _ _ i in
    let r = is_extern _ _ _ c.1 in
    (r.0, subst (λ (x : External). In (x.name, ExternOf x.kind r.0) (externals_from 0 xs)) c.2 r.1)
external_defined b e i = absurd i

extern_pairs : (xs : List (List ℕ × Kind)) (n : ℕ) → Pairs Apart (externals_from n xs) → Pairs (λ x y. x.0 ≢ y.0) xs
extern_pairs [] n h = tt
extern_pairs (y ∷ xs) n h = (
  every_of (λ z. y.0 ≢ z.0) xs (λ z i.
      let r = is_extern xs (suc n) z i in
      let other = every_in (Apart (y.0, ExternOf y.1 n)) _ (z.0, ExternOf z.1 r.0) h.0 r.1 in λ e. other refl (sym e)),
  extern_pairs xs (suc n) h.1,
)

abbrev OtherName : External → External → Type 0
OtherName e f = e.name ≢ f.name

external_pairs : (b : BodyTree) → Pairs Apart (defined_by b) → Pairs OtherName (externals_by b)
external_pairs b h = grind (arith, pairs_map, extern_pairs)

external_written : (b : BodyTree) → IsGood b → (e : External) → In e (externals_by b) → IsWritten e.name
external_written b good e i = grind (arith, in_map, each_in)

module _ (lines : List LineTree) (a : Assignment) (c : IsClean lines a) where
  -- a line repeats nothing
  pub once_at : (k : ℕ) → k < length lines → IsOnce lines k
  once_at k below = once lines k (free lines a k (c.placed k below)).once

  pub externals_written : (e : External) → In e (externals lines) → IsWritten e.name
  externals_written e i =
      let r = in_flat (given_at lines) (range_with_len 0 (length lines)) e (rw externals_flat at i) in
      external_written (body_at lines r.0) (c.good r.0) e r.2

  pub externals_differ : Pairs OtherName (externals lines)
  externals_differ =
      let n = length lines in
      rw externals_flat
      (pairs_flat _ _ _ _ (pairs_range n 0)
      (λ k i. let r = in_range n 0 k i in external_pairs _ (once_at k (omega arith)).within)
      (λ j k i l less u v in_u in_v.
      let r = in_range n 0 k l in
      let du = external_defined _ _ in_u in
      let dv = external_defined _ _ in_v in
      λ e. (once_at k (omega arith)).above (v.name, ExternOf v.kind dv.0) dv.1 refl j less
      (u.name, ExternOf u.kind du.0) du.1 (sym e)))

  names_differ : (s t : Kept) → s.id < t.id → t.id ≤ suc (length lines) → IsNamed lines s.id s.segment
      → IsNamed lines t.id t.segment → Differ s.segment.name t.segment.name
  names_differ s t less low (Nameless e r) named = λ ne. absurd (ne e)
  names_differ s t less low (DeclaredAt j kj d at_j name_j) (Nameless e r) = grind arith
  names_differ s t less low (DeclaredAt j kj d at_j name_j) (DeclaredAt k kk f at_k name_k) = λ ne same.
      (once_at k (omega arith)).above (f.name, SegmentOf kk) (rw f.is (inl refl)) refl j (omega arith)
      (d.name, SegmentOf kj) (rw d.is (inl refl)) (sym name_k ∙ sym same ∙ name_j)

  pub segments_differ : Pairs (λ s t. Differ s.name t.name) (object_segments lines a)
  segments_differ =
      let all = all_kept lines a (free_text lines a c) in
      pairs_map _ _ _
      (pairs_within _ _ _
      (λ s t i j less. names_differ s t less (all.low t j) (all.every s i).named (all.every t j).named) all.order)

abbrev OtherPublic : Public → Public → Type 0
OtherPublic p q = p.name ≢ q.name

module _ (lines : List LineTree) (a : Assignment) (c : IsClean lines a) where
  -- what a public of this name is
  record IsMade (name : List ℕ) (p : Public) : Type 0 where
    name_is : p.name ≡ name
    counts : IsPublicBase (object_segments lines a) p.kind p.base

  abbrev Makes : List ℕ → Published → Type 0
  Makes name (Ok p) = IsMade name p
  Makes name (Err n) = Unit {0}

  abbrev public_segments : ℕ → PublicSegment
  public_segments id = numbered_as (segment_of lines a id) (segment_number lines a id)

  counts_from : (k : Kind) (id : ℕ) → same_kind k (segment_of lines a id).kind ≡ true → segment_number lines a id ≢ 0
      → IsPublicBase (object_segments lines a) k (base.Segment (segment_number lines a id))
  counts_from k id same ne =
      let all = all_kept lines a (free_text lines a c) in
      let n = has_number (kept lines a) all.order id ne in (
        n.0.segment,
        n.3,
        (all.every n.0 n.1).kind_is ∙ ap (λ i. (segment_of lines a i).kind) n.2 ∙ sym (kind_same _ _ same),
      )

  of_base : (name : List ℕ) (v : Value) (b : Base)
      → Makes name (public_of_value name v (base_segment public_segments b) b)
  of_base name v base.None = record { name_is = refl; counts = tt }
  of_base name v (base.External external) = tt
  of_base name v (base.Segment id) = grind (arith, counts_from, eq-eqb, ne_eqb, cases_eq)

  of_definer : (name : List ℕ) (v : Option Value) (d : Definer)
      → Makes name (public_by name d (counted_from public_segments v) v)
  of_definer name v d = grind (arith, of_base)

  public_is_made : (k : ℕ) (name : List ℕ) → Makes name (published lines a k name)
  unfolding published
  public_is_made k name = of_definer name (a.value k name) (definer_by (definition_of lines name))

  -- a public of one of these names
  abbrev IsAmong : List (List ℕ) → Public → Type 0
  IsAmong names p = (name : List ℕ) × In name names × IsMade name p

  -- publics of which this holds, no two of one name
  record AreOf (P : Public → Type 0) (ps : List Public) : Type 0 where
    each : (p : Public) → In p ps → P p
    order : Pairs OtherPublic ps

  no_publics : (P : Public → Type 0) → AreOf P []
  no_publics P = record { each = λ p i. absurd i; order = tt }

  with_name : (name : List ℕ) (names : List (List ℕ)) (ps : List Public) (r : Published)
      → ((y : List ℕ) → In y names → y ≢ name) → Makes name r → AreOf (IsAmong names) ps
      → AreOf (IsAmong (name ∷ names)) (if_public r ps)
  with_name name names ps (Ok p) others m h = record {
    each = λ q i. elim i [
      | inl e ↦ (name, inl refl, subst (IsMade name) e m)
      | inr j ↦ let r = h.each q j in (r.0, inr r.1, r.2)
    ];
    order = (
      every_of (OtherPublic p) ps (λ q i. let r = h.each q i in
          λ e. others r.0 r.1 (sym r.2.name_is ∙ sym e ∙ m.name_is)),
      h.order,
    );
  }
  with_name name names ps (Err n) others m h =
      record { each = λ q i. let r = h.each q i in (r.0, inr r.1, r.2); order = h.order }

  of_names : (k : ℕ) (names : List (List ℕ)) → Pairs (λ x y. y ≢ x) names
      → AreOf (IsAmong names) (publics_of lines a k names)
  of_names k [] h = no_publics _
  of_names k (name ∷ names) h = with_name name names _ _ (λ y i. every_in (λ y. y ≢ name) names y h.0 i)
      (public_is_made k name) (of_names k names h.1)

  of_line : (k : ℕ) (b : BodyTree) → Pairs (λ x y. y ≢ x) (publics_in b)
      → AreOf (IsAmong (publics_in b)) (publics_by lines a k b)
  of_line k (body.Public names) h = of_names k names h
  of_line k b h = no_publics _

  -- a public of the first k lines
  abbrev IsPublicOf : ℕ → Public → Type 0
  IsPublicOf k p = (line : ℕ) × (line < k) × IsAmong (publics_in (body_at lines line)) p

  are_above : (k : ℕ) → k ≤ length lines → AreOf (IsPublicOf k) (publics_before lines a k)
  unfolding publics_before
  are_above zero within = no_publics _
  are_above (suc k) within =
      let o = publics_once lines k [] (publics_in (body_at lines k)) (once_at lines a c k (omega arith)).publics in
      let before = are_above k (omega arith) in
      let here = of_line k (body_at lines k) o.within in
      record {
        each = in_both _ _ _ (λ p i. let r = before.each p i in (r.0, omega arith, r.2)) (λ p i.
            (k, omega arith, here.each p i));
        order = pairs_append _ _ _ before.order here.order (λ p q i j e.
            let u = before.each p i in
            let v = here.each q j in
            o.above v.0 v.1 u.0 u.1 u.2.0 u.2.1 (sym v.2.name_is ∙ sym e ∙ u.2.2.name_is));
      }

  pub publics_differ : Pairs OtherPublic (publics_before lines a (length lines))
  publics_differ = (are_above (length lines) (omega arith)).order

  public_written : (b : BodyTree) → IsGood b → (name : List ℕ) → In name (publics_in b) → IsWritten name
  public_written b good name i = grind (arith, each_in)

  pub publics_valid : (p : Public) → In p (publics_before lines a (length lines))
      → IsPublicValid (object_segments lines a) p
  publics_valid p i =
      let r = (are_above (length lines) (omega arith)).each p i in
      let among = r.2 in
      record {
        name = rw among.2.name_is (public_written _ (c.good r.0) among.0 among.1);
        base = among.2.counts;
      }

-- The module that a text without faults gives is valid, and so is that of each answer.

-- what is left to the linker has a base that is linked
field_linked : (names : Meanings) (at : Field) (next : ℕ) (v : Value) (r : Reference)
    → field_of names at next v ≡ Some (Linked r) → is_linked names v.base ≡ true
unfolding field_of
field_linked names at next v r h = grind arith

-- a base without a number that the linker adds is relocatable
unfixed : (fixed none current : Bool) → (not fixed || (not none && not current)) ≡ true → none ≡ true → fixed ≡ false
unfixed fixed none current l e = grind arith

-- an external of that number
numbered_there : (es : List External) (e : ℕ) → 1 ≤ e → e ≤ length es → (x : External) × (numbered es e ≡ Some x)
numbered_there es zero some most = absurd (omega arith)
numbered_there es (suc k) some most =
    elim (slice_get_cases es k).1 [ inl p ↦ (p.0, p.2) | inr p ↦ absurd (omega arith) ]

module _ (lines : List LineTree) (a : Assignment) (c : IsClean lines a) where
  abbrev targets : List Segment
  targets = object_segments lines a

  -- a base that the linker adds is a target in the object
  target_there : (k : ℕ) (b : Base) → IsDeclaredBase lines a b → is_linked (final lines a k) b ≡ true
      → IsTarget targets (externals lines) (object_base (final lines a k) b)
  unfolding final
  target_there k base.None h l = absurd (cc l)
  target_there k (base.Segment id) h l =
      let free = free_text lines a c in
      let n = has_number (kept lines a) (all_kept lines a free).order id
      (λ e. relocatable_numbered lines a free id (unfixed _ _ _ l (eq-eqb _ _ e)) e) in (n.0.segment, n.3)
  target_there k (base.External e) h l = numbered_there _ e h.0 (omega (arith, externals_count lines))

  final_good : (k : ℕ) → AreBased (IsDeclaredBase lines a) (final lines a k)
  unfolding final
  final_good k =
      record { value = λ name. name_good lines a c.fits k name; here = place_good lines a c.fits k }

  pub fixups_valid : (f : Fixup) → In f (fixups lines a)
      → IsFixupValid targets (externals lines) (pieces lines a) f
  fixups_valid f i =
      let t = of_text lines a c f i in
      let line = t.2.0 in
      let o = t.2.2 in
      let l = (given lines a c line o.below).content.linked o.reference o.there in
      let names = final lines a line in
      let based = subst (IfBased (IsDeclaredBase lines a)) l.is
      (value_based (IsDeclaredBase lines a) tt names (final_good line) l.tree) in
      record {
        bit = rw (← o.is) (references_have_bits _ _ _ _ _ based.bit_is l.from);
        target = rw (← o.is)
            (subst (λ (x : Reference). IsTarget targets (externals lines) x.base) (linked_is _ _ _ _ _ l.from)
            (target_there line l.value.base based.base_is (field_linked _ _ _ _ _ l.from)));
        held = held lines a c f t;
      }

-- bit 0 of the banks, and those that are selected
abbrev some_banks : Bool → Bool → Bool → ℕ
some_banks b c d = 1 + cond b 2 0 + cond c 4 0 + cond d 8 0

four_banks : (b c d : Bool) → (some_banks b c d % 2 ≡ 1) × (some_banks b c d < 16)
four_banks b c d = (grind arith, grind arith)

one_or_two : (b : Bool) → IsVersion (cond b 2 1)
one_or_two b = grind arith

-- a module with a marked segment is of version 2
any_marked : (segments : List Segment) (s : Segment) → In s segments → s.argument ≡ true
    → list_any (λ s. s.argument) segments ≡ true
any_marked [] s i h = absurd i
any_marked (x ∷ segments) s (inl e) h = grind arith
any_marked (x ∷ segments) s (inr j) h = or_right _ _ (any_marked segments s j h)

version_two : (segments : List Segment) (s : Segment) → In s segments → s.argument ≡ true → version_of segments ≡ 2
version_two segments s i h = rw (any_marked segments s i h) refl

module _ (lines : List LineTree) (a : Assignment) (c : IsClean lines a) where
  abbrev segments : List Segment
  segments = object_segments lines a

  abbrev publics : List Public
  publics = publics_before lines a (length lines)

  segments_valid : (s : Segment) → In s segments → IsSegmentValid s
  segments_valid s i = let r = in_map _ _ _ i in
      rw (← r.2) ((all_kept lines a (free_text lines a c)).every r.0 r.1).valid

  is_valid : (file : List ℕ) → IsValid (parts file lines a)
  unfolding parts
  is_valid file =
      let free = free_text lines a c in
      let n = length lines in
      let banks = four_banks (is_selected lines a 1 n) (is_selected lines a 2 n) (is_selected lines a 3 n) in
      let few = few_segments lines a free in
      let len = length-map (kept lines a) (λ (k : Kept). k.segment) in
      record {
        name = name_is_written (module_name file) lines c.good (file_written file);
        version = one_or_two (list_any (λ s. s.argument) segments);
        few_segments = omega arith;
        few_externals = few_externals lines a free;
        few_fixups = few_fixups lines a c;
        segments = all_in _ _ segments_valid;
        marks = all_in _ _ (version_two segments);
        segment_names = pairs_all _ _ (segments_differ lines a c);
        publics = all_in _ _ (publics_valid lines a c);
        public_names = pairs_all _ _ (publics_differ lines a c);
        externals = all_in _ _ (externals_written lines a c);
        external_names = pairs_all _ _ (externals_differ lines a c);
        pieces = all_in _ _ (pieces_valid lines a c);
        piece_order = pairs_all _ _ (pieces_ordered lines a c);
        fixups = all_in _ _ (fixups_valid lines a c);
        fixup_order = pairs_all _ _ (fixups_ordered lines a c);
        banks = banks.0;
        few_banks = banks.1;
      }

-- the module of lines of which none has a fault
pub valid_where : (source : SourceFile) (includes : List SourceFile) (lines : List LineTree) (a : Assignment)
    → text_of source includes ≡ Lines lines → Fits lines a
    → AreFree lines a (length lines) → content_faults lines a ≡ [] → (file : List ℕ) → IsValid (parts file lines a)
valid_where source includes lines a read fits placed content file =
    is_valid lines a (clean_where source includes lines a read fits placed content) file

pub parts_are_valid : PartsAreValid
parts_are_valid file lines a f = is_valid lines a (clean lines a f) file

few_bytes : (n : ℕ) → min n 3 ≤ 3
few_bytes n = omega arith

module _ (source : SourceFile) (includes : List SourceFile) where
  abbrev IsLine : LineTree → Type 0
  IsLine l = IsLineOf source includes l.file l.line

  all_listed : (lines : List LineTree) (a : Assignment) (k : ℕ) (ls : List LineTree) → All IsLine ls
      → All (IsRowOfText source includes) (rows_from lines a k ls)
  all_listed lines a k [] h = All-nil _
  all_listed lines a k (l ∷ ls) h =
      All-cons (IsRowOfText source includes) _ _ (record { line = All-head IsLine l ls h; count = few_bytes _ })
      (all_listed lines a (suc k) ls (All-tail IsLine l ls h))

  abbrev gives : ModuleParts → List Row → AnswerTree
  gives m given = Gives m given

  -- the module of this answer, if it is one, can be made
  abbrev CanBe : AnswerTree → Type 0
  CanBe (Gives m given) = CanBeGiven source includes m given
  CanBe (AnswerFaults faults) = Unit {0}

  module _ (lines : List LineTree) (read : text_of source includes ≡ Lines lines) where
    by_content : (faults : List Fault) → first_fault (placed_fault lines (fitting lines)) 0 lines ≡ None
        → content_faults lines (fitting lines) ≡ faults
        → CanBe (content_or_faults source.name lines (fitting lines) faults)
    by_content [] placed content = record {
      valid = parts_are_valid source.name lines (fitting lines)
          (record {
            source = source;
            includes = includes;
            read = read;
            fits = fits lines;
            placed = placed;
            content = content;
          });
      listed = all_listed lines (fitting lines) 0 lines (lines_are_of_files source includes lines read);
    }
    by_content (f ∷ faults) placed content = tt

    by_place : (o : Option Fault) → first_fault (placed_fault lines (fitting lines)) 0 lines ≡ o
        → CanBe (placed_or_fault source.name lines (fitting lines) o)
    by_place None placed = by_content (content_faults lines (fitting lines)) placed refl
    by_place (Some f) placed = tt

    of_lines : CanBe (answer_of_lines source.name lines (fitting lines))
    unfolding answer_of_lines
    of_lines = by_place (first_fault (placed_fault lines (fitting lines)) 0 lines) refl

  of_answer : (text : TextTree) (m : ModuleParts) (given : List Row) → text_of source includes ≡ text
      → IsAnswerOf source.name text (gives m given) → CanBeGiven source includes m given
  of_answer (TextFaults faults) m given read h = absurd (cc h)
  of_answer (Lines lines) m given read h = subst CanBe (sym (h (fitting lines) (fits lines))) (of_lines lines read)

pub answers_are_valid : AnswersAreValid
answers_are_valid source includes m given h = of_answer source includes (text_of source includes) m given refl h
