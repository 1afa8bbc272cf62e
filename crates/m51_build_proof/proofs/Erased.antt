-- The image of a linked program is erased outside its runs: a field lies only where there is content.
use Rattle.m51_build_proof.proofs
use proofs.Common.{nat_tests, option_map_or, option_or, ModuleParts, Placing, option_map, slice_get, unwrap_or, is_some}
use proofs.Common.{nat_le, All, flat_map, range_with_len, Contains, cons_option, filter_map, le-leb, All-head, All-tail}
use proofs.Common.{byte_among, Stretch, byte_in, stretch_at, Piece, IsValid, IsFixupValid, IsHeld, field_len}
use proofs.Common.{slice_get-get_or, slice_get_within, FieldBytes, AreRuns, IsInRun, address_of, ends_below, Fixup}
use proofs.Common.{Form, Run}
use Rattle.std.proofs.Common.{◌≡◌, ◌⊎◌, inl, inr, ℕ, ◌+◌, ◌-◌, ◌<◌, ◌≤◌, true, List, [], ◌∷◌, length, map, Option, Some}
use Rattle.std.proofs.Common.{None, refl, ◌∙◌, arith, Bool, cond, get_or}
use Rattle.m51_linker.specs.Image.{IsImage, byte_at, content_of, IsFilled, fields_of, fixup_field, module_content}
use Rattle.m51_linker.specs.Image.{module_fields, placed_field, placed_piece}
use Rattle.std.proofs.lemmas.List.Folds.{list_any_at}
use Rattle.m51_cells.proofs.Members.{all_every, every_in, got_in}
use Rattle.m51_cells.proofs.Small.{first_or_after, none_in_empty}
use Rattle.m51_hex.specs.Laws.{IsErasedOutside, is_in_run, is_in_runs}
use Rattle.m51_fields.specs.Fields.{bytes_of_field, field_of}
use Rattle.m51_linker.proofs.Written.{among-append}

-- the stretch has a byte for the address
record IsIn (s : Stretch) (address : ℕ) : Type 0 where
  from : s.at ≤ address
  below : address < s.at + length s.bytes

in_some : (s : Stretch) (address : ℕ) → IsIn s address → is_some (byte_in s address) ≡ true
in_some s address h =
    rw (le-leb s.at address h.from, slice_get-get_or s.bytes (address - s.at) 0 (omega (arith, h.from, h.below)))

in_by : (s : Stretch) (address : ℕ) (b : Bool) (o : Option ℕ) → nat_le s.at address ≡ b
    → slice_get s.bytes (address - s.at) ≡ o → is_some (cond b o None) ≡ true → IsIn s address
in_by s address b o from is h = grind (arith, nat_tests, slice_get_within s.bytes (address - s.at))

-- one of these stretches has a byte for the address
abbrev HasAt : List Stretch → ℕ → Type 0
HasAt xs address = is_some (byte_among xs address) ≡ true

or_cases : (o p : Option ℕ) → is_some (option_or o p) ≡ true → (is_some o ≡ true) ⊎ (is_some p ≡ true)
or_cases o p h = grind arith

-- what has a byte in one of two lists, module by module, has one in the other
each_at : (f g : ℕ → List Stretch) (address : ℕ) → ((k : ℕ) → HasAt (f k) address → HasAt (g k) address) → (ks : List ℕ)
    → HasAt (flat_map f ks) address → HasAt (flat_map g ks) address
each_at f g address lead [] h = h
each_at f g address lead (k ∷ ks) h =
    grind (
      arith,
      among-append (f k) (flat_map f ks) address,
      among-append (g k) (flat_map g ks) address,
      lead k,
      each_at f g address lead ks,
    )

-- a field has as many bytes as its form says
field_length : (form : Form) (bit target address first : ℕ) (field : FieldBytes)
    → field_of form bit target address first ≡ Some field → length (bytes_of_field field) ≡ field_len form
field_length form bit target address first field h = grind arith

module _ (modules : List ModuleParts) (placing : Placing) (address : ℕ) where
  -- a piece that holds the byte is placed at it
  piece_at : (m segment offset : ℕ) (pieces : List Piece) (p : Piece) → Contains pieces p → p.segment ≡ segment
      → p.offset ≤ offset → offset < p.offset + length p.bytes
      → address ≡ address_of modules placing m segment offset
      → HasAt (map (placed_piece modules placing m) pieces) address
  piece_at m segment offset [] p there same from below at = absurd (none_in_empty p there)
  piece_at m segment offset (q ∷ pieces) p there same from below at =
      elim (first_or_after q pieces p there) [
        | inl is ↦
            let start : address_of modules placing m q.segment 0 ≡ address_of modules placing m segment 0 =
            rw (is, same) refl in
            let front : q.offset ≡ p.offset = rw is refl in
            let len : length q.bytes ≡ length p.bytes = rw is refl in
            grind (
              arith,
              in_some (placed_piece modules placing m q) address (record {
                from = omega (arith, start, front, from, at);
                below = omega (arith, start, front, len, below, at);
              }),
            )
        | inr later ↦ grind (arith, piece_at m segment offset pieces p later same from below at)
      ]

  -- a field lies in the pieces of its module
  module _ (m : ℕ) (parts : ModuleParts) (f : Fixup)
      (valid : IsFixupValid parts.segments parts.externals parts.pieces f) where
    field_at : (field : FieldBytes) → fixup_field modules placing m f ≡ Some field
        → IsIn (stretch_at (address_of modules placing m f.segment f.offset) field) address
        → HasAt (map (placed_piece modules placing m) parts.pieces) address
    field_at field is here =
        let k : ℕ = address - address_of modules placing m f.segment f.offset in
        let len = field_length f.form f.bit _ _ _ field is in
        let from = here.from in
        let below = here.below in
        let held : IsHeld parts.pieces f.segment (f.offset + k) = valid.held k (omega (arith, from, below, len)) in
        piece_at m f.segment (f.offset + k) parts.pieces held.piece held.is held.same held.from held.below
        (omega (arith, from))

    option_at : (o : Option FieldBytes) → fixup_field modules placing m f ≡ o → (rest : List Stretch)
        → HasAt (cons_option (option_map (stretch_at (address_of modules placing m f.segment f.offset)) o) rest) address
        → HasAt (map (placed_piece modules placing m) parts.pieces) address ⊎ HasAt rest address
    option_at None is rest h = inr h
    option_at (Some field) is rest h = elim (or_cases (byte_among rest address) _ h) [
      | inl later ↦ inr later
      | inr here ↦ inl (field_at field is (in_by _ address _ _ refl refl here))
    ]

  fixups_at : (m : ℕ) (parts : ModuleParts) (fixups : List Fixup)
      → All (IsFixupValid parts.segments parts.externals parts.pieces) fixups
      → HasAt (filter_map (placed_field modules placing m) fixups) address
      → HasAt (map (placed_piece modules placing m) parts.pieces) address
  fixups_at m parts [] valid h = absurd (cc h)
  fixups_at m parts (f ∷ fixups) valid h =
      grind (
        arith,
        option_at m parts f,
        All-head (IsFixupValid parts.segments parts.externals parts.pieces) f fixups valid,
        All-tail (IsFixupValid parts.segments parts.externals parts.pieces) f fixups valid,
        fixups_at m parts fixups,
      )

  of_module : (m : ℕ) (o : Option ModuleParts) → ((parts : ModuleParts) → o ≡ Some parts → IsValid parts)
      → HasAt (option_map_or (λ (parts : ModuleParts). filter_map (placed_field modules placing m) parts.fixups) o [])
      address
      → HasAt (option_map_or (λ (parts : ModuleParts). map (placed_piece modules placing m) parts.pieces) o []) address
  of_module m o valid h = grind (arith, fixups_at)

  module_valid : All IsValid modules → (m : ℕ) (parts : ModuleParts) → slice_get modules m ≡ Some parts → IsValid parts
  module_valid valid m parts is =
      every_in IsValid modules parts (all_every IsValid modules valid) (got_in modules m parts is)

  fields_in_content : All IsValid modules → HasAt (fields_of modules placing) address
      → HasAt (content_of modules placing) address
  fields_in_content valid h =
      each_at (module_fields modules placing) (module_content modules placing) address
      (λ m here. of_module m (slice_get modules m) (module_valid valid m) here) (range_with_len 0 (length modules)) h

  -- where there is no content the byte is FFH
  unfilled_by : (content fields : Option ℕ) → (is_some fields ≡ true → is_some content ≡ true)
      → (is_some content ≡ true → ⊥) → unwrap_or (option_or fields content) 0xFF ≡ 0xFF
  unfilled_by content fields lead none = grind arith

  unfilled : All IsValid modules → (HasAt (content_of modules placing) address → ⊥)
      → byte_at modules placing address ≡ 0xFF
  unfilled valid none =
      unfilled_by (byte_among (content_of modules placing) address) (byte_among (fields_of modules placing) address)
      (fields_in_content valid) none

-- an address of a run is in the runs
in_run : (address : ℕ) (run : Run) → IsInRun run address → is_in_run address run ≡ true
in_run address run h = grind (arith, nat_tests)

in_runs : (address : ℕ) (runs : List Run) (run : Run) → Contains runs run → IsInRun run address
    → is_in_runs address runs ≡ true
in_runs address runs run there h =
    list_any_at (is_in_run address) runs there.0 run there.1 (rw there.2 (in_run address run h))

pub erased_outside : (modules : List ModuleParts) (placing : Placing) (image : List ℕ) (runs : List Run)
    → All IsValid modules → IsImage modules placing image
    → AreRuns (IsFilled modules placing) runs → All (λ byte. byte < 256) image → IsErasedOutside image runs
erased_outside modules placing image runs valid is are bytes = record {
  whole = is.len;
  bytes = bytes;
  within = λ k d below. ends_below (IsFilled modules placing) 0x10000 (λ address filled. filled.inside)
      (get_or runs k d) (are.whole k d below);
  outside = λ address below none. is.each address below ∙ unfilled modules placing address valid (λ filled.
      let found = are.all address (record { inside = below; filled = filled }) in
      absurd (cc (none, in_runs address runs found.0 found.1 found.2)));
}
