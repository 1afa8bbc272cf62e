-- The records of pieces and fixups, and the search for the field of a fixup in the pieces.
use Rattle.std.proofs.lemmas.Grind.{common_steps}
use Rattle.std.proofs.Common.{◌≡◌, ℕ, ◌+◌, true, min, List, [], length, drop, Some, refl, sym, subst, ◌∙◌, arith, zero}
use Rattle.std.proofs.Common.{suc, ◌∷◌, ◌++◌, Ok, ap, ◌<◌, ◌≤◌, Option, All, false, get_or, take, None}
use Rattle.std.specs.Prelude.{◌&&◌, nat_le, nat_lt}
use Rattle.m51_module.specs.declared.content.Piece.{Piece}
use Rattle.m51_module.specs.declared.segment.Segment.{Segment}
use Rattle.m51_module.specs.Validity.{numbered, IsPieceValid, LiesBefore, IsTarget, field_len, IsHeld}
use Rattle.m51_module.specs.Validity.{IsFixupValid, FieldBefore}
use Rattle.m51_cells.specs.Kinds.{is_code}
use Rattle.m51_frame.specs.Fields.{checked, or_absent, byte_at, pair}
use Rattle.m51_records.specs.Contents.{piece_contents, latest, segment_follows, code_segment_at, piece_follows}
use Rattle.m51_records.specs.Contents.{piece_offset_at, content_at, piece_in}
use Rattle.m51_records.proofs.Tools.{on_ok, checked_ok, ok_is, absent_ok}
use Rattle.m51_records.proofs.Codec.{Agrees, then_fields, last_field, record_agrees, numbered_codec, pair_codec, Codec}
use Rattle.m51_records.proofs.Codec.{if_fields, no_field, table_codec, tested_codec, any_pair, byte_takes}
use Rattle.m51_records.proofs.InTurn.{Hold, InTurn, in_turn, last_follows, all_follow, at_most, Follows}
use Rattle.m51_records.proofs.InTurn.{holds as all_hold, latest_push}
use Rattle.std.proofs.lemmas.Bool.{leb-true, lt-ltb}
use Rattle.m51_cells.specs.declared.kind.Base.{Base}
use Rattle.m51_cells.specs.declared.kind.Base.TheVariants.{None as NoBase, Segment as InSegment, External as OfExternal}
use Rattle.m51_module.specs.declared.content.Fixup.{Fixup}
use Rattle.m51_module.specs.declared.symbol.External.{External}
use Rattle.m51_records.specs.Codes.{form_number, form_by_code}
use Rattle.m51_records.specs.Fixups.{target_fields, fixup_contents, field_segment_follows, fixup_segment_at}
use Rattle.m51_records.specs.Fixups.{field_follows, fixup_offset_at, is_inside, form_at, is_bit, bit_at}
use Rattle.m51_records.specs.Fixups.{target_by_number, tag_at, target_at, addend_at, fixup_in, is_held, holds}
use Rattle.m51_records.proofs.FieldLaws.{form_takes, form_read}
use Rattle.std.proofs.lemmas.List.Folds.{Any-from_list_any, list_any_at}
use Rattle.m51_module.specs.declared.content.Form.{Form}
use Rattle.m51_module.proofs.FieldLengths.{some_byte}
use Rattle.std.proofs.lemmas.Bool.Decides.{nat_tests}
use Rattle.std.proofs.lemmas.List.{take_more}
use Rattle.std.proofs.lemmas.List.Elements.{All-head, All-push, All-tail}
use Rattle.m51_records.specs.WorkPieces.{ends_by, EndBy, ArePassed}

-- The record of a piece: what is read is written so, what is written is read, and both are valid together.

module _ (segments : List Segment) where
  -- what the tests of the reader say of a piece, after those before it
  pub record IsPieceTested (before : List Piece) (p : Piece) : Type 0 where
    pub segment : Segment
    pub is : numbered segments p.segment ≡ Some segment
    pub ascends : (is_code segment.kind && segment_follows (latest before) p.segment) ≡ true
    pub follows : piece_follows (latest before) p.segment p.offset ≡ true
    pub inside : (nat_lt 0 (length p.bytes) && nat_le (p.offset + min (length p.bytes) 1024) segment.size) ≡ true
    pub most : nat_le (length p.bytes) 1024 ≡ true

  -- what is tested of the bytes
  abbrev AreInside : ℕ → ℕ → List ℕ → Type 0
  AreInside size offset bytes = ((nat_lt 0 (length bytes) && nat_le (offset + min (length bytes) 1024) size) ≡ true)
      × (nat_le (length bytes) 1024 ≡ true)

  content_agrees : (size offset : ℕ) → Agrees (content_at size offset) (λ bytes. bytes) (AreInside size offset)
  unfolding content_at
  content_agrees size offset = record {
    again = λ end bytes g. rw (g.0, g.1) refl;
    takes = λ end bytes y fits e.
        on_ok (checked (nat_lt 0 (length bytes) && nat_le (offset + min (length bytes) 1024) size) end bytes bytes) _ y
        ((bytes ≡ y) × AreInside size offset y) (λ inside e1 h1.
        let a = checked_ok
        (nat_lt 0 (length bytes) && nat_le (offset + min (length bytes) 1024) size) end bytes bytes inside e1 in
        let b = checked_ok (nat_le (length inside) 1024) end (drop 1024 inside) inside y h1 in
        subst (λ y. (bytes ≡ y) × AreInside size offset y) (a.1 ∙ b.1)
        (refl, (a.0, subst (λ (t : List ℕ). nat_le (length t) 1024 ≡ true) (sym a.1) b.0))) e;
  }

  pub piece_agrees : (before : List Piece) → Agrees (piece_in segments before) piece_contents (IsPieceTested before)
  unfolding piece_in code_segment_at piece_offset_at
  piece_agrees before = record_agrees
      (then_fields (numbered_codec segments (λ n s. is_code s.kind && segment_follows (latest before) n)
      (λ n s. (n, s.size)) (λ (v : ℕ × ℕ). v.0) (λ n s. refl)) (λ number.
      then_fields (pair_codec (piece_follows (latest before) number.0)) (λ offset.
      last_field (content_agrees number.1 offset))))
      (λ x. record { segment = x.0.0; offset = x.1.0; bytes = x.1.1 }) piece_contents (IsPieceTested before)
      (λ x g. (refl, grind arith))
      (λ p t. (((p.segment, t.segment.size), (p.offset, p.bytes)), refl, grind arith))

  -- what a module's validity says of its pieces
  pub pieces_are : (xs : List Piece) → InTurn IsPieceTested [] xs → Hold (IsPieceValid segments) LiesBefore xs
  pieces_are xs h = all_hold (IsPieceValid segments) LiesBefore IsPieceTested (λ before p v t. (
    grind arith,
    all_follow LiesBefore p (IsPieceValid segments) (grind arith) before v.0 v.1 (grind arith),
  )) xs h

  pub pieces_in_turn : (xs : List Piece) → Hold (IsPieceValid segments) LiesBefore xs → InTurn IsPieceTested [] xs
  pieces_in_turn xs v = in_turn (IsPieceValid segments) LiesBefore IsPieceTested xs
      (grind (arith, common_steps, latest, last_follows LiesBefore)) v

-- The record of a fixup: what is read is written so, what is written is read, and both are valid together.

-- ---- the order

abbrev Passes : Fixup → Option Fixup → Type 0
Passes f previous = (field_segment_follows previous f.segment ≡ true)
    × (field_follows previous f.segment f.offset ≡ true)

passes_follow : (f : Fixup) (previous : Option Fixup) → Passes f previous → Follows FieldBefore f previous
passes_follow f previous t = grind arith

-- ---- content under a field

module _ (pieces : List Piece) (segment : ℕ) where
  held_of : (offset : ℕ) → is_held pieces segment offset ≡ true → IsHeld pieces segment offset
  held_of offset h = grind (arith, Any-from_list_any)

  held_from : (offset : ℕ) → IsHeld pieces segment offset → is_held pieces segment offset ≡ true
  held_from offset h = grind (arith, list_any_at)

  inside_of : (offset : ℕ) (form : Form) → is_inside pieces segment offset form ≡ true → (k : ℕ) → k < field_len form
      → IsHeld pieces segment (offset + k)
  inside_of offset form h k less = grind (arith, held_of)

  inside_from : (offset : ℕ) (form : Form) → ((k : ℕ) → k < field_len form → IsHeld pieces segment (offset + k))
      → is_inside pieces segment offset form ≡ true
  inside_from offset form h =
      let first = held_from offset (grind (arith, h 0 (some_byte form))) in
      grind (arith, held_from)

-- ---- fixups

module _ (segments : List Segment) (externals : List External) (pieces : List Piece) where
  -- what the tests of the reader say of a fixup, after those before it
  pub record IsFixupTested (before : List Fixup) (f : Fixup) : Type 0 where
    pub few : nat_lt (length before) 65535 ≡ true
    pub segment : Segment
    pub is : numbered segments f.segment ≡ Some segment
    pub ascends : field_segment_follows (latest before) f.segment ≡ true
    pub follows : field_follows (latest before) f.segment f.offset ≡ true
    pub inside : is_inside pieces f.segment f.offset f.form ≡ true
    pub bit : is_bit f.form f.bit ≡ true
    pub target : IsTarget segments externals f.target

  -- a tag and a number
  target_takes : (tag number end : ℕ) (field : List ℕ) (b : Base) → nat_le tag 1 ≡ true
      → target_by_number segments externals tag number end field ≡ Ok b → (tag ∷ number ∷ [] ≡ target_fields b)
      × IsTarget segments externals b
  target_takes zero n end field b low e = on_ok (or_absent (numbered segments n) end field) _ b _ (λ s e1 h1.
      rw (← ok_is (InSegment n) b h1) (refl, (s, absent_ok (numbered segments n) end field s e1))) e
  target_takes (suc zero) n end field b low e = on_ok (or_absent (numbered externals n) end field) _ b _ (λ x e1 h1.
      rw (← ok_is (OfExternal n) b h1) (refl, (x, absent_ok (numbered externals n) end field x e1))) e
  target_takes (suc (suc t)) n end field b low e = absurd (omega (arith, leb-true (suc (suc t)) 1 low))

  target_again : (end : ℕ) (b : Base) (rest : List ℕ) → IsTarget segments externals b
      → target_at segments externals end (target_fields b ++ rest) ≡ Ok (b, rest)
  unfolding target_at
  target_again end NoBase rest h = absurd h
  target_again end (InSegment n) rest h = rw (h.1) refl
  target_again end (OfExternal n) rest h = rw (h.1) refl

  target_codec : Codec Base
  unfolding target_at
  target_codec = record {
    good = IsTarget segments externals;
    write = target_fields;
    read = target_at segments externals;
    again = target_again;
    takes = λ end bytes y fits e. on_ok (tag_at end bytes) _ y _ (λ tag e1 h1.
        on_ok (byte_at end tag.1) _ y _ (λ number e2 h2.
        on_ok (target_by_number segments externals tag.0 number.0 end tag.1) _ y
        ((bytes ≡ target_fields y.0 ++ y.1) × IsTarget segments externals y.0) (λ b e3 h3.
        let t = (tested_codec (λ n. nat_le n 1)).takes end bytes tag fits e1 in
        let c = target_takes tag.0 number.0 end tag.1 b t.1 e3 in
        rw (← ok_is (b, number.1) y h3) (
          t.0 ∙ ap (λ r. tag.0 ∷ r) (byte_takes end tag.1 number e2) ∙ ap (λ (r : List ℕ). r ++ number.1) c.0,
          c.1,
        )) h2) h1) e;
  }

  addend_agrees : Agrees addend_at pair (λ n. Unit {0})
  unfolding addend_at
  addend_agrees = record_agrees (then_fields any_pair (λ n. no_field)) (λ (x : ℕ × Unit {0}). x.0) pair (λ n. Unit {0})
      (λ x g. (refl, tt)) (λ n t. ((n, tt), refl, (tt, tt)))

  pub fixup_agrees : (before : List Fixup)
      → Agrees (fixup_in segments externals pieces before) fixup_contents (IsFixupTested before)
  unfolding fixup_in fixup_segment_at fixup_offset_at form_at bit_at target_codec
  fixup_agrees before = record_agrees
      (if_fields (nat_lt (length before) 65535)
      (then_fields (numbered_codec segments (λ n s. field_segment_follows (latest before) n) (λ n s. n) (λ n. n)
      (λ n s. refl)) (λ segment.
      then_fields (pair_codec (field_follows (latest before) segment)) (λ offset.
      then_fields (table_codec form_number form_by_code (is_inside pieces segment offset) form_read form_takes) (λ form.
      then_fields (tested_codec (is_bit form)) (λ bit.
      then_fields target_codec (λ target. last_field addend_agrees)))))))
      (λ x. record {
        segment = x.0;
        offset = x.1.0;
        form = x.1.1.0;
        bit = x.1.1.1.0;
        target = x.1.1.1.1.0;
        addend = x.1.1.1.1.1;
      }) fixup_contents (IsFixupTested before)
      (λ x g. (refl, grind arith))
      (λ f t. ((f.segment, (f.offset, (f.form, (f.bit, (f.target, f.addend))))), refl, grind arith))

  -- The fixups of a module are valid where each passes the tests of the reader after those before it.

  -- what a module's validity says of a fixup, whose segment is one of these
  pub record IsSeated (f : Fixup) : Type 0 where
    pub valid : IsFixupValid segments externals pieces f
    pub segment : Segment
    pub is : numbered segments f.segment ≡ Some segment

  -- what it says of all its fixups
  pub fixups_few : (xs : List Fixup) → InTurn IsFixupTested [] xs → length xs ≤ 65535
  fixups_few xs h = at_most IsFixupTested 65535 (grind arith) xs h

  pub fixups_are : (xs : List Fixup) → InTurn IsFixupTested [] xs → Hold IsSeated FieldBefore xs
  fixups_are xs h = all_hold IsSeated FieldBefore IsFixupTested
      (grind (arith, inside_of, all_follow, passes_follow, latest)) xs h

  pub fixups_in_turn : (xs : List Fixup) → length xs ≤ 65535 → Hold IsSeated FieldBefore xs
      → InTurn IsFixupTested [] xs
  fixups_in_turn xs few v = in_turn IsSeated FieldBefore IsFixupTested xs
      (grind (arith, latest, last_follows, lt-ltb, length, inside_from)) v

  -- a valid fixup lies over a valid piece, which has a segment
  pub seated : All (IsPieceValid segments) pieces → (f : Fixup) → IsFixupValid segments externals pieces f → IsSeated f
  seated content f valid =
      let first = valid.held 0 (some_byte f.form) in
      grind arith

-- The field of a fixup is looked for after the pieces that lie before the field before it.

-- a piece that ends by an offset holds no byte from there on
holds_not : (segment offset at : ℕ) (p : Piece) → offset ≤ at → ends_by segment offset p ≡ true → holds segment at p
    ≡ false
holds_not segment offset at p le h = grind (arith, nat_tests)

held_after : (segment offset at passed : ℕ) (pieces : List Piece) → offset ≤ at
    → EndBy segment offset (take passed pieces) → is_held (drop passed pieces) segment at ≡ is_held pieces segment at
held_after segment offset at zero pieces le h = refl
held_after segment offset at (suc n) [] le h = refl
held_after segment offset at (suc n) (p ∷ pieces) le h =
    rw (holds_not segment offset at p le (All-head (λ p. ends_by segment offset p ≡ true) p (take n pieces) h))
    (held_after segment offset at n pieces le (All-tail (λ p. ends_by segment offset p ≡ true) p (take n pieces) h))

-- pieces that end by a field hold none of its bytes
pub inside_after : (pieces : List Piece) (passed segment offset : ℕ) (form : Form)
    → EndBy segment offset (take passed pieces) → is_inside (drop passed pieces) segment offset form
    ≡ is_inside pieces segment offset form
inside_after pieces passed segment offset form h =
    rw (
      held_after segment offset offset passed pieces (omega arith) h,
      held_after segment offset (offset + 1) passed pieces (omega arith) h,
    ) refl

-- those that end by the field before end by the next one
pub known_by : (pieces : List Piece) (passed : ℕ) (previous : Option Fixup) (segment offset : ℕ)
    → ArePassed pieces passed previous
    → field_segment_follows previous segment ≡ true → field_follows previous segment offset ≡ true
    → EndBy segment offset (take passed pieces)
known_by pieces passed None segment offset k h1 h2 = rw (k.none refl) (grind arith)
known_by pieces passed (Some f) segment offset k h1 h2 = λ n d below.
    grind (arith, nat_tests, k.some f refl n d below)

-- a further fixup
pub passed_on : (pieces : List Piece) (passed : ℕ) (before : List Fixup) (f : Fixup) → passed ≤ length pieces
    → EndBy f.segment f.offset (take passed pieces) → ArePassed pieces passed (latest (before ++ f ∷ []))
passed_on pieces passed before f few h = grind (arith, latest_push)

-- one more piece that ends by the offset
pub one_passed : (segment offset passed : ℕ) (pieces : List Piece) (p : Piece) → passed < length pieces
    → get_or pieces passed p ≡ p → EndBy segment offset (take passed pieces) → ends_by segment offset p ≡ true
    → EndBy segment offset (take (passed + 1) pieces)
one_passed segment offset passed pieces p below is so_far h =
    subst (EndBy segment offset)
    (grind (arith, take_more))
    (All-push (λ p. ends_by segment offset p ≡ true) (take passed pieces) p so_far h)

-- what the reader of a fixup needs
pub ruleset fixup_read = (known_by, passed_on)
