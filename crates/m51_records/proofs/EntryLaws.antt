-- Names that differ from those before, and the records of a name: header and end, segments, externals, publics.
use Rattle.std.proofs.Common.{◌≡◌, ◌≢◌, ℕ, Bool, true, List, [], ◌∷◌, refl, arith, false, nat_eq, ◌++◌, ◌+◌, ◌≤◌, ◌%◌}
use Rattle.std.proofs.Common.{◌<◌, sym, ap, eqb, length, Some, inl, inr, All, AllPairs, zero, suc, Ok, ◌∙◌}
use Rattle.std.specs.Prelude.{not, map, ◌||◌, nat_lt, ◌&&◌}
use Rattle.std.specs.List.{list_any}
use Rattle.m51_cells.specs.Name.{IsWritten}
use Rattle.m51_cells.proofs.Members.{Every, every_of, every_weaker}
use Rattle.m51_frame.specs.Fields.{same, is_name_among, or_absent, byte_at, upper_name, new_name_at}
use Rattle.m51_records.proofs.FieldLaws.{same_is, same_of, upper_takes, kind_takes, kind_read, reloc_takes, reloc_read}
use Rattle.m51_records.proofs.FieldLaws.{upper_read}
use Rattle.std.proofs.lemmas.Grind.{common_steps}
use Rattle.std.specs.Cmp.Lexicographic.{pointwise}
use Rattle.std.specs.Global.{Vec}
use Rattle.indexmap.specs.IndexSet.{insert_key}
use Rattle.m51_records.specs.WorkNames.{items_of}
use Rattle.m51_cells.specs.declared.kind.Kind.{Kind}
use Rattle.m51_cells.specs.declared.kind.Kind.TheVariants.{Number}
use Rattle.m51_cells.specs.declared.kind.Reloc.TheVariants.{Abs}
use Rattle.m51_cells.specs.Fits.{Fits}
use Rattle.m51_records.specs.Segments.{limit, flags_of, marks_of, are_marks, segment_contents, segment_kind_at}
use Rattle.m51_records.specs.Segments.{reloc_at, marks_at, base_at, is_size, size_at, no_text, segment_name, may_have}
use Rattle.m51_records.specs.Segments.{segment_name_at, segment_in}
use Rattle.std.proofs.lemmas.Bool.Decides.{nat_tests}
use Rattle.m51_module.specs.Validity.{IsVersion, IsArgument, IsSegmentValid, Differ, numbered, IsPublicBase}
use Rattle.m51_module.specs.Validity.{IsPublicValid}
use Rattle.m51_records.specs.Ends.{header_contents, is_version, header_in, end_contents, are_banks, end_in}
use Rattle.m51_records.proofs.Codec.{Agrees, then_fields, no_field, record_agrees, written_name, tested_codec}
use Rattle.m51_records.proofs.Codec.{text_codec, Fields, if_fields, last_field, table_codec, pair_codec, name_agrees}
use Rattle.m51_records.proofs.Codec.{Codec, any_pair, byte_takes}
use Rattle.m51_cells.specs.declared.kind.Reloc.{Reloc}
use Rattle.m51_cells.specs.Kinds.{same_kind, is_absolute, allows}
use Rattle.m51_module.specs.declared.segment.Segment.{Segment}
use Rattle.m51_records.specs.Codes.{kind_number, kind_of, reloc_number, reloc_by_code}
use Rattle.std.proofs.lemmas.Bool.{cases_Bool, eqb-true, lt-ltb, ltb-true}
use Rattle.m51_cells.proofs.KindLaws.{kind_same, absolute_is, not_absolute}
use Rattle.m51_records.proofs.InTurn.{InTurn, at_most, holds, in_turn, Hold}
use Rattle.m51_cells.specs.declared.kind.Base.{Base}
use Rattle.m51_cells.specs.declared.kind.Base.TheVariants.{None as NoBase, Segment as InSegment}
use Rattle.m51_module.specs.declared.symbol.External.{External}
use Rattle.m51_module.specs.declared.symbol.Public.{Public}
use Rattle.m51_records.specs.Externals.{external_contents, kind_at, external_in}
use Rattle.m51_records.specs.Publics.{base_number, public_contents, base_of_public, public_base_at, public_in}
use Rattle.m51_records.proofs.Tools.{on_ok, ok_is, checked_ok, absent_ok}

-- Names that differ from those before, as a test and as a fact.

-- The names that a set of byte vectors holds: which are among them, and that a new one goes last.

-- a test of the values of a function
pub any_map : {X Y : Type 0} (f : X → Y) (p : Y → Bool) (xs : List X) → list_any p (map f xs)
    ≡ list_any (λ x. p (f x)) xs
any_map f p [] = refl
any_map f p (x ∷ xs) = cc (any_map f p xs)

pub among_is : (name : List ℕ) (keys : List (Vec ℕ)) → list_any (λ (k : Vec ℕ). pointwise nat_eq name k.items) keys
    ≡ is_name_among (items_of keys) name
among_is name [] = refl
among_is name (k ∷ keys) = cc (among_is name keys)

-- a new name goes last
pub put_last : (keys : List (Vec ℕ)) (key : Vec ℕ) → is_name_among (items_of keys) key.items ≡ false
    → items_of (insert_key (λ (a b : Vec ℕ). pointwise nat_eq a.items b.items) keys key)
    ≡ items_of keys ++ key.items ∷ []
put_last keys key h = rw (among_is key.items keys, h) (grind (arith, common_steps))

-- Names that differ from those before.
module _ {X : Type 0} (name_in : X → List ℕ) (name : List ℕ) where
  -- the element has the name
  abbrev pub has : X → Bool
  has x = same name (name_in x)

  pub all_other : (xs : List X) → not (list_any has xs) ≡ true → Every (λ x. name_in x ≢ name) xs
  all_other [] h = tt
  all_other (x ∷ xs) h = (λ e. grind (arith, same_of), all_other xs (grind arith))

  pub none_has : (xs : List X) → Every (λ x. name_in x ≢ name) xs → not (list_any has xs) ≡ true
  none_has [] h = refl
  none_has (x ∷ xs) h = grind (arith, none_has xs h.1, same_is name (name_in x))

  -- the same, of the names of the list
  pub others : (xs : List X) → not (is_name_among (map name_in xs) name) ≡ true → Every (λ x. name_in x ≢ name) xs
  others xs h = all_other xs (rw any_map at h)

  pub none_among : (xs : List X) → Every (λ x. name_in x ≢ name) xs → not (is_name_among (map name_in xs) name) ≡ true
  none_among xs h = rw any_map (none_has xs h)

-- An absolute segment fits where it ends by the limit of its kind.

pub ends_from_fits : (kind : Kind) (base size : ℕ) → Fits kind Abs base size → base + size ≤ limit kind
ends_from_fits kind base size h = grind arith

pub fits_from_ends : (kind : Kind) (base size : ℕ) → kind ≢ Number → base + size ≤ limit kind → Fits kind Abs base size
fits_from_ends kind base size ne h = grind arith

-- The first and the last record: what is read is written so, and what is written is read.

-- what is shown of a name and a version
pub record IsHeader (header : List ℕ × ℕ) : Type 0 where
  pub name : IsWritten header.0
  pub version : IsVersion header.1

pub header_agrees : Agrees header_in (λ (h : List ℕ × ℕ). header_contents h.0 h.1) IsHeader
unfolding header_in
header_agrees = record_agrees
    (then_fields written_name (λ name. then_fields (tested_codec is_version) (λ version. no_field)))
    (λ x. (x.0, x.1.0)) (λ (h : List ℕ × ℕ). header_contents h.0 h.1) IsHeader
    (λ x g. (refl, grind (arith, nat_tests)))
    (λ h t. ((h.0, (h.1, tt)), refl, grind arith))

-- the banks are those of a module
pub record AreBanks (banks : ℕ) : Type 0 where
  pub first : banks % 2 ≡ 1
  pub few : banks < 16

pub end_agrees : (name : List ℕ) → Agrees (end_in name) (end_contents name) AreBanks
unfolding end_in
end_agrees name = record_agrees
    (then_fields (text_codec (same name)) (λ text. then_fields (tested_codec are_banks) (λ banks. no_field)))
    (λ x. x.1.0) (end_contents name) AreBanks
    (λ x g. (ap (λ t. end_contents t x.1.0) (sym (same_is name x.0 g.0)), grind (arith, nat_tests)))
    (λ banks t. ((name, (banks, tt)), refl, (same_of name name refl, (grind (arith, nat_tests), tt))))

-- The record of a segment: what is read is written so, what is written is read, and both are valid together.

-- what the tests of the reader say of a segment of a module of that version, after those before it
pub record IsTested (version : ℕ) (before : List Segment) (s : Segment) : Type 0 where
  pub few : nat_lt (length before) 254 ≡ true
  pub kind : not (same_kind s.kind Number) ≡ true
  pub reloc : allows s.kind s.reloc ≡ true
  pub marks : are_marks version s.kind s.reloc s.overlay s.argument ≡ true
  pub base : (is_absolute s.reloc || eqb s.base 0) ≡ true
  pub size : is_size s.kind s.reloc s.base s.size ≡ true
  pub name : segment_name s.reloc s.name ≡ Some s.name
  pub new : may_have before s.reloc s.argument s.name ≡ true

-- ---- fields

marks_take : (n : ℕ) (m : Bool × Bool) → marks_of n ≡ Some m → n ≡ flags_of m.0 m.1
marks_take n m e = grind arith

marks_read : (o a : Bool) → marks_of (flags_of o a) ≡ Some (o, a)
marks_read o a = grind arith

segment_name_takes : (reloc : Reloc) (text name : List ℕ) → segment_name reloc text ≡ Some name → text ≡ name
segment_name_takes Abs text name e = grind (arith, no_text)
segment_name_takes reloc text name e = (upper_takes text name e).0

-- ---- the record

module _ (version : ℕ) (before : List Segment) where
  -- kind, type, flags, base, size, name
  abbrev segment_fields : Fields Segment (Kind × (Reloc × ((Bool × Bool) × (ℕ × (ℕ × List ℕ)))))
  segment_fields = if_fields (nat_lt (length before) 254)
      (then_fields (table_codec kind_number kind_of (λ k. not (same_kind k Number)) kind_read kind_takes) (λ kind.
      then_fields (table_codec reloc_number reloc_by_code (allows kind) reloc_read reloc_takes) (λ reloc.
      then_fields (table_codec (λ (m : Bool × Bool). flags_of m.0 m.1) marks_of
      (λ (m : Bool × Bool). are_marks version kind reloc m.0 m.1)
      (λ (m : Bool × Bool). marks_read m.0 m.1) marks_take) (λ marks.
      then_fields (pair_codec (λ base. is_absolute reloc || eqb base 0)) (λ base.
      then_fields (pair_codec (is_size kind reloc base)) (λ size.
      last_field (name_agrees (segment_name reloc) (may_have before reloc marks.1) (segment_name_takes reloc))))))))

  abbrev segment_of : Kind × (Reloc × ((Bool × Bool) × (ℕ × (ℕ × List ℕ)))) → Segment
  segment_of x = record {
    name = x.1.1.1.1.1;
    kind = x.0;
    reloc = x.1.0;
    overlay = x.1.1.0.0;
    argument = x.1.1.0.1;
    base = x.1.1.1.0;
    size = x.1.1.1.1.0;
  }

  pub segment_agrees : Agrees (segment_in version before) segment_contents (IsTested version before)
  unfolding segment_in segment_kind_at reloc_at marks_at base_at size_at segment_name_at
  segment_agrees = record_agrees segment_fields segment_of segment_contents (IsTested version before)
      (λ x g. (refl, grind arith))
      (λ s t. (
        (s.kind, (s.reloc, ((s.overlay, s.argument), (s.base, (s.size, s.name))))),
        refl,
        (grind arith),
      ))

-- The segments of a module are valid where each passes the tests of the reader after those before it.

-- what a module's validity says of its segments, in that version
pub record AreSegments (version : ℕ) (segments : List Segment) : Type 0 where
  pub few : length segments ≤ 254
  pub each : All IsSegmentValid segments
  pub names : AllPairs (λ s t. Differ s.name t.name) segments
  pub marks : All (λ s. s.argument ≡ true → version ≡ 2) segments

-- what the tests ask of a segment that has the argument mark
argued : (b two overlay direct argument : Bool) → (b && (not argument || (two && (overlay && direct)))) ≡ true
    → argument ≡ true → (two ≡ true) × (overlay ≡ true) × (direct ≡ true)
argued b two overlay direct argument h a = grind arith

begun : (new argument begins : Bool) → (new && (not argument || begins)) ≡ true → argument ≡ true → begins ≡ true
begun new argument begins h a = grind arith

unnamed : (absolute new argument : Bool) → ((absolute || new) && argument) ≡ true → absolute ≡ false → new ≡ true
unnamed absolute new argument h rel = grind arith

module _ (version : ℕ) where
  -- what it says of one
  record IsFit (s : Segment) : Type 0 where
    pub valid : IsSegmentValid s
    pub two : s.argument ≡ true → version ≡ 2

  abbrev AreOther : List Segment → Segment → Type 0
  AreOther before s = Every (λ (u : Segment). Differ u.name s.name) before

  marked : (before : List Segment) (s : Segment) → IsTested version before s → s.argument ≡ true → IsArgument s
      × (version ≡ 2)
  unfolding may_have
  marked before s t a = grind (arith, argued, begun, eqb-true)

  valid_of : (before : List Segment) (s : Segment) → IsTested version before s → IsSegmentValid s
  valid_of before s t =
      record {
        kind = λ e. absurd (cc (rw e at t.kind));
        reloc = t.reloc;
        size = grind (arith, nat_tests);
        absolute = λ e.
            let size : is_size s.kind Abs s.base s.size ≡ true = rw e at t.size in
            let none : no_text s.name ≡ Some s.name = rw e at t.name in
            grind (arith, common_steps);
        relocatable = λ ne.
            let other : is_absolute s.reloc ≡ false = grind arith in
            record { name = grind arith; base = grind (arith, nat_tests) };
        overlay = λ o. grind (arith, nat_tests);
        argument = λ a. (marked before s t a).0;
      }

  differ_of : (before : List Segment) (s : Segment) → IsTested version before s → AreOther before s
  unfolding may_have
  differ_of before s t = elim (cases_Bool (is_absolute s.reloc)) [
    | inl abs ↦ every_of (λ (u : Segment). Differ u.name s.name) before
        (grind arith)
    | inr other ↦
        every_weaker (λ (u : Segment). u.name ≢ s.name) (λ (u : Segment). Differ u.name s.name) before
        (λ u ne named. ne) (all_other (λ (u : Segment). u.name) s.name before
        (grind (arith, unnamed)))
  ]

  pub segments_are : (xs : List Segment) → InTurn (IsTested version) [] xs → AreSegments version xs
  segments_are xs h =
      let v = holds IsFit (λ (s t : Segment). Differ s.name t.name) (IsTested version)
      (λ before s v t. grind (arith, common_steps, valid_of before s t, differ_of before s t)) xs h in
      record {
        few = at_most (IsTested version) 254 (grind arith) xs h;
        each = grind arith;
        names = v.pairs;
        marks = grind arith;
      }

  tested_of : (before : List Segment) (s : Segment) → length before < 254 → IsFit s → AreOther before s
      → IsTested version before s
  unfolding may_have
  tested_of before s less f differ =
      let v = f.valid in
      let marks : are_marks version s.kind s.reloc s.overlay s.argument ≡ true = grind arith in
      elim (cases_Bool (is_absolute s.reloc)) [
        | inl abs ↦
            let a = v.absolute (absolute_is s.reloc abs) in
            grind (arith, common_steps, kind_same s.kind Number, marks)
        | inr rel ↦
            let r = v.relocatable (not_absolute s.reloc rel) in
            let new = none_has (λ (u : Segment). u.name) s.name before
            (every_weaker (λ (u : Segment). Differ u.name s.name) (λ (u : Segment). u.name ≢ s.name) before
            (grind arith) differ) in
            grind (arith, common_steps, kind_same s.kind Number, marks, upper_read s.name r.name)
      ]

  pub segments_in_turn : (xs : List Segment) → AreSegments version xs → InTurn (IsTested version) [] xs
  segments_in_turn xs v = in_turn IsFit (λ (s t : Segment). Differ s.name t.name) (IsTested version) xs
      (λ before s less. tested_of before s (omega (arith, less, v.few))) (grind arith)

-- The records of externals and publics: what is read is written so, what is written is read, and both are valid
-- together.

-- a kind, any
abbrev any_kind : Codec Kind
any_kind = table_codec kind_number kind_of (λ k. true) kind_read kind_takes

-- the name, the last field, which is none of these
abbrev last_name : {S : Type 0} → List (List ℕ) → Fields S (List ℕ)
last_name names = last_field (name_agrees upper_name (λ n. not (is_name_among names n))
    (λ text name e. (upper_takes text name e).0))

-- ---- externals

abbrev external_names : List External → List (List ℕ)
external_names before = map (λ (x : External). x.name) before

pub record IsExternalTested (before : List External) (x : External) : Type 0 where
  pub few : nat_lt (length before) 255 ≡ true
  pub name : upper_name x.name ≡ Some x.name
  pub new : not (is_name_among (external_names before) x.name) ≡ true

pub external_agrees : (before : List External)
    → Agrees (external_in before) external_contents (IsExternalTested before)
unfolding external_in kind_at new_name_at
external_agrees before = record_agrees
    (if_fields (nat_lt (length before) 255) (then_fields any_kind (λ kind. last_name (external_names before))))
    (λ x. record { name = x.1; kind = x.0 }) external_contents (IsExternalTested before)
    (λ x g. (refl, grind arith)) (λ e t. ((e.kind, e.name), refl, grind arith))

-- what a module's validity says of its externals
abbrev IsNamed : External → Type 0
IsNamed x = IsWritten x.name

abbrev HasOther : External → External → Type 0
HasOther x y = x.name ≢ y.name

pub externals_few : (xs : List External) → InTurn IsExternalTested [] xs → length xs ≤ 255
externals_few xs h = at_most IsExternalTested 255 (grind (arith, ltb-true)) xs h

pub externals_are : (xs : List External) → InTurn IsExternalTested [] xs → Hold IsNamed HasOther xs
externals_are xs h = holds IsNamed HasOther IsExternalTested
    (λ before x v t. (grind arith, others (λ (x : External). x.name) x.name before t.new)) xs h

pub externals_in_turn : (xs : List External) → length xs ≤ 255 → Hold IsNamed HasOther xs
    → InTurn IsExternalTested [] xs
externals_in_turn xs few v =
    in_turn IsNamed HasOther IsExternalTested xs (grind (arith, lt-ltb, upper_read, none_among)) v

-- ---- publics

abbrev public_names : List Public → List (List ℕ)
public_names before = map (λ (p : Public). p.name) before

module _ (segments : List Segment) where
  pub record IsPublicTested (before : List Public) (p : Public) : Type 0 where
    pub base : IsPublicBase segments p.kind p.base
    pub name : upper_name p.name ≡ Some p.name
    pub new : not (is_name_among (public_names before) p.name) ≡ true

  base_takes : (kind : Kind) (number end : ℕ) (field : List ℕ) (b : Base)
      → base_of_public segments kind number end field ≡ Ok b → (number ≡ base_number b) × IsPublicBase segments kind b
  base_takes kind zero end field b e = rw (← ok_is NoBase b e) (refl, tt)
  base_takes kind (suc n) end field b e = on_ok (or_absent (numbered segments (suc n)) end field) _ b _ (λ s e1 h1.
      let c = checked_ok (same_kind s.kind kind) end field (InSegment (suc n)) b h1 in
      rw (← c.1)
      (refl, (s, absent_ok (numbered segments (suc n)) end field s e1, kind_same s.kind kind c.0))) e

  base_again : (kind : Kind) (end : ℕ) (field : List ℕ) (b : Base) → IsPublicBase segments kind b
      → base_of_public segments kind (base_number b) end field ≡ Ok b
  base_again kind end field b h = grind arith

  base_codec : Kind → Codec Base
  unfolding public_base_at
  base_codec kind = record {
    good = IsPublicBase segments kind;
    write = λ b. base_number b ∷ [];
    read = public_base_at segments kind;
    again = λ end b rest h. rw (base_again kind end (base_number b ∷ rest) b h) refl;
    takes = λ end bytes y fits e. on_ok (byte_at end bytes) _ y _ (λ n e1 h1.
        on_ok (base_of_public segments kind n.0 end bytes) _ y
        ((bytes ≡ base_number y.0 ∷ y.1) × IsPublicBase segments kind y.0) (λ b e2 h2.
        let k = base_takes kind n.0 end bytes b e2 in
        rw (← ok_is (b, n.1) y h2) (byte_takes end bytes n e1 ∙ ap (λ m. m ∷ n.1) k.0, k.1)) h1) e;
  }

  pub public_agrees : (before : List Public)
      → Agrees (public_in segments before) public_contents (IsPublicTested before)
  unfolding public_in kind_at base_codec new_name_at
  public_agrees before = record_agrees
      (then_fields any_kind (λ kind. then_fields (base_codec kind) (λ base. then_fields any_pair (λ number.
      last_name (public_names before)))))
      (λ x. record { name = x.1.1.1; kind = x.0; base = x.1.0; number = x.1.1.0 })
      public_contents (IsPublicTested before)
      (λ x g. (refl, grind arith)) (λ p t. ((p.kind, (p.base, (p.number, p.name))), refl, grind arith))

  -- what a module's validity says of its publics
  abbrev HaveOther : Public → Public → Type 0
  HaveOther p q = p.name ≢ q.name

  pub publics_are : (xs : List Public) → InTurn IsPublicTested [] xs → Hold (IsPublicValid segments) HaveOther xs
  publics_are xs h = holds (IsPublicValid segments) HaveOther IsPublicTested
      (λ before p v t. (grind arith, others (λ (p : Public). p.name) p.name before t.new)) xs h

  pub publics_in_turn : (xs : List Public) → Hold (IsPublicValid segments) HaveOther xs → InTurn IsPublicTested [] xs
  publics_in_turn xs v =
      in_turn (IsPublicValid segments) HaveOther IsPublicTested xs (grind (arith, upper_read, none_among)) v
