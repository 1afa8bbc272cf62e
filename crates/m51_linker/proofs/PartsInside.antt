-- Parts lie inside their joined segments, and have their kind.
use Rattle.std.proofs.Common.{◌≡◌, ◌⊎◌, inl, inr, ℕ, zero, suc, ◌+◌, ◌-◌, ◌≤◌, Bool, true, false, cond, ◌&&◌, List, []}
use Rattle.std.proofs.Common.{◌∷◌, ◌++◌, length, take, drop, get_or, refl, sym, ap, ◌∙◌, arith, Option, Some, None}
use Rattle.std.specs.Prelude.{find, flat_map, option_map, position, slice_get, unwrap_or}
use Rattle.std.specs.List.{filter, list_all, list_any}
use Rattle.std.specs.Option.{option_map_or}
use Rattle.std.proofs.lemmas.Bool.{and_parts, ltb-false, not-false}
use Rattle.std.proofs.lemmas.List.Quantifiers.{position-Some}
use Rattle.std.proofs.lemmas.Option.{slice_get-get_or, slice_get-map, slice_get_within}
use Rattle.m51_cells.proofs.KindLaws.{kind_same}
use Rattle.m51_cells.proofs.ListsAndOptions.{map_none}
use Rattle.m51_cells.specs.Kinds.{most_of, same_kind, same_reloc}
use Rattle.m51_module.specs.declared.parts.ModuleParts.{ModuleParts}
use Rattle.m51_module.specs.declared.segment.Segment.{Segment}
use Rattle.m51_module.specs.Validity.{numbered}
use Rattle.m51_resolve.specs.declared.segment.JoinedSegment.{JoinedSegment}
use Rattle.m51_resolve.specs.Joining.{all_segments, are_parts, end_after, firsts, firsts_after, is_relocatable}
use Rattle.m51_resolve.specs.Joining.{joined_of, part_after, part_of, parts_with, segments_before, segments_of}
use Rattle.m51_resolve.specs.Joining.{start_after}
use Rattle.m51_resolve.specs.Rules.{AreResolved, is_mixed, is_too_large, parts_agree, same_marks}
use Rattle.m51_resolve.proofs.Alike.{absolute_none, filter_none, filter_same, part_self, parts_back, parts_have}
use Rattle.m51_resolve.proofs.FirstSight.{any_firsts}
use Rattle.m51_resolve.proofs.JoinSteps.{none_at}
use Rattle.m51_resolve.proofs.Lookups.{around, found, get-append, get_flat, get_left, IsThere, take_flat}
use Rattle.m51_resolve.proofs.Positions.{none_found}
use Rattle.m51_resolve.proofs.Within.{any-map, end-append, end_least, filter_at, find_none, firsts_append, most_fits}

-- a part ends at the end of its joined segment or below it
part_end : (before : List Segment) (s : Segment) (after : List Segment) → is_relocatable s.reloc ≡ true
    → (part_after before s).offset + s.size ≤ end_after 0 (filter (are_parts s) (before ++ s ∷ after))
part_end before s after named =
    let p : Segment → Bool = are_parts s in
    let start : ℕ = start_after s.reloc (end_after 0 (filter p before)) in
    let is : end_after 0 (filter p (before ++ s ∷ after)) ≡ end_after (start + s.size) (filter p after) =
    ap (end_after 0) (filter_at p before s after (part_self s named))
    ∙ end-append 0 (filter p before) (s ∷ filter p after) in
    let past = end_least (start + s.size) (filter p after) in
    omega (arith, is, past)

-- the segment that is seen first of those with which a segment is joined
record IsFirstOf (all before : List Segment) (s : Segment) : Type 0 where
  pub f : Segment
  pub at : slice_get (firsts all) (part_after before s).number ≡ Some f
  pub same : (f ≡ s) ⊎ (are_parts s f ≡ true)

module _ (before : List Segment) (s : Segment) (after : List Segment) where
  abbrev more : List Segment
  more = firsts_after (before ++ s ∷ []) after

  abbrev rest : Bool → List Segment
  rest seen = cond seen more (s ∷ more)

  firsts_are : firsts (before ++ s ∷ after) ≡ firsts before ++ rest (list_any (are_parts s) before)
  firsts_are = firsts_append [] before (s ∷ after)

  first_by : (o : Option ℕ) → position (are_parts s) (firsts before) ≡ o → IsFirstOf (before ++ s ∷ after) before s
  first_by (Some n) is =
      let fs : List Segment = firsts before in
      let k = position-Some (are_parts s) fs n s is in
      let f : Segment = get_or fs n s in
      let number : (part_after before s).number ≡ n = ap (λ (o : Option ℕ). unwrap_or o (length fs)) is in
      record {
        f = f;
        at = ap (slice_get (firsts (before ++ s ∷ after))) number
            ∙ ap (λ (xs : List Segment). slice_get xs n) firsts_are
            ∙ get_left fs (rest (list_any (are_parts s) before)) n f (slice_get-get_or fs n s k.0);
        same = inr k.1;
      }
  first_by None is =
      let fs : List Segment = firsts before in
      let unseen : list_any (are_parts s) before ≡ false = sym (any_firsts [] before s)
      ∙ none_found (are_parts s) fs is in
      let number : (part_after before s).number ≡ length fs + 0 = ap (λ (o : Option ℕ). unwrap_or o (length fs)) is
      ∙ plus_none (length fs) in
      record {
        f = s;
        at = ap (slice_get (firsts (before ++ s ∷ after))) number
            ∙ ap (λ (xs : List Segment). slice_get xs (length fs + 0))
            (firsts_are ∙ ap (λ (b : Bool). fs ++ rest b) unseen)
            ∙ get-append fs (s ∷ more) 0;
        same = inl refl;
      } where
        plus_none : (n : ℕ) → n ≡ n + 0
        plus_none n = omega arith

  earlier_spot : IsFirstOf (before ++ s ∷ after) before s
  earlier_spot = first_by (position (are_parts s) (firsts before)) refl

  -- it lies inside
  end_by : (r : Bool) (f : Segment) → is_relocatable s.reloc ≡ r → (f ≡ s) ⊎ (are_parts s f ≡ true)
      → (part_after before s).offset + s.size ≤ end_after 0 (parts_with (before ++ s ∷ after) f)
  end_by true f named (inl same) =
      let all : List Segment = before ++ s ∷ after in
      let is : end_after 0 (parts_with all f) ≡ end_after 0 (filter (are_parts s) all) =
      ap (λ (x : Segment). end_after 0 (parts_with all x)) same
      ∙ ap (λ (b : Bool). end_after 0 (cond b (filter (are_parts s) all) (s ∷ []))) named in
      omega (arith, part_end before s after named, is)
  end_by true f named (inr part) =
      let all : List Segment = before ++ s ∷ after in
      let is : end_after 0 (parts_with all f) ≡ end_after 0 (filter (are_parts s) all) =
      ap (λ (b : Bool). end_after 0 (cond b (filter (are_parts f) all) (f ∷ []))) (parts_have s f part).second
      ∙ ap (end_after 0) (sym (filter_same s f part all)) in
      omega (arith, part_end before s after named, is)
  end_by false f absolute (inl same) =
      let all : List Segment = before ++ s ∷ after in
      let is : end_after 0 (parts_with all f) ≡ start_after s.reloc 0 + s.size =
      ap (λ (x : Segment). end_after 0 (parts_with all x)) same
      ∙ ap (λ (b : Bool). end_after 0 (cond b (filter (are_parts s) all) (s ∷ []))) absolute in
      let offset : (part_after before s).offset ≡ start_after s.reloc 0 =
      ap (λ (ps : List Segment). start_after s.reloc (end_after 0 ps))
      (filter_none (are_parts s) before (absolute_none s absolute before)) in
      omega (arith, is, offset)
  end_by false f absolute (inr part) = absurd (false_true (sym absolute ∙ (parts_have s f part).first)) where
    false_true : false ≡ true → ⊥
    false_true e = cc

-- what holds of all that pass holds of one that passes
all_filter : (p q : Segment → Bool) (before : List Segment) (s : Segment) (after : List Segment) → p s ≡ true
    → list_all q (filter p (before ++ s ∷ after)) ≡ true → q s ≡ true
all_filter p q [] s after h all =
    (and_parts (q s) (list_all q (filter p after))
    (sym (ap (λ (b : Bool). list_all q (cond b (s ∷ filter p after) (filter p after))) h) ∙ all)).0
all_filter p q (x ∷ before) s after h all =
    after_one (p x) x (filter p (before ++ s ∷ after)) all (all_filter p q before s after h) where
      after_one : (b : Bool) (x : Segment) (xs : List Segment) → list_all q (cond b (x ∷ xs) xs) ≡ true
          → (list_all q xs ≡ true → q s ≡ true) → q s ≡ true
      after_one true x xs all k = k (and_parts (q x) (list_all q xs) all).1
      after_one false x xs all k = k all

module _ (modules : List ModuleParts) (resolved : AreResolved modules) (n : ℕ) (f : Segment)
    (at : slice_get (firsts (all_segments modules)) n ≡ Some f) where
  abbrev all : List Segment
  all = all_segments modules

  -- all parts agree with the one that is seen first
  agree : list_all (parts_agree f) (parts_with all f) ≡ true
  agree = not-false (list_all (parts_agree f) (parts_with all f))
      (none_at (is_mixed all) (firsts all) n f
      (find_none (is_mixed all) (firsts all)
      (map_none (λ (s : Segment). s.name) (find (is_mixed all) (firsts all)) resolved.parts)) at)

  kind_by : (before after : List Segment) (s : Segment) → all ≡ before ++ s ∷ after → (f ≡ s) ⊎ (are_parts s f ≡ true)
      → f.kind ≡ s.kind
  kind_by before after s is (inl same) = ap (λ (x : Segment). x.kind) same
  kind_by before after s is (inr part) =
      let named : is_relocatable f.reloc ≡ true = (parts_have s f part).second in
      let with : parts_with all f ≡ filter (are_parts f) (before ++ s ∷ after) =
      ap (λ (b : Bool). cond b (filter (are_parts f) all) (f ∷ [])) named ∙ ap (filter (are_parts f)) is in
      let pass : list_all (parts_agree f) (filter (are_parts f) (before ++ s ∷ after)) ≡ true =
      sym (ap (list_all (parts_agree f)) with) ∙ agree in
      let both : parts_agree f s ≡ true =
      all_filter (are_parts f) (parts_agree f) before s after (parts_back s f part) pass in
      let front = (and_parts (same_kind f.kind s.kind && same_reloc f.reloc s.reloc) (same_marks f s) both).0 in
      kind_same f.kind s.kind (and_parts (same_kind f.kind s.kind) (same_reloc f.reloc s.reloc) front).0

  -- the joined segment is not too large
  small : end_after 0 (parts_with all f) ≤ 65535
  small =
      let none : list_any (λ x. is_too_large (joined_of all x)) (firsts all) ≡ false =
      sym (any-map is_too_large (joined_of all) (firsts all))
      ∙ find_none is_too_large (segments_of modules)
      (map_none (λ (j : JoinedSegment). j.title) (find is_too_large (segments_of modules)) resolved.sizes) in
      let fits = ltb-false (most_of f.kind f.reloc) (end_after 0 (parts_with all f))
      (none_at (λ x. is_too_large (joined_of all x)) (firsts all) n f none at) in
      omega (arith, fits, most_fits f.kind f.reloc)

-- the joined segment of which a segment is a part
pub record IsPartOf (modules : List ModuleParts) (m s : ℕ) (segment : Segment) : Type 0 where
  pub j : JoinedSegment
  pub at : slice_get (segments_of modules) (part_of modules m s).0 ≡ Some j
  pub kind : j.kind ≡ segment.kind
  pub inside : (part_of modules m s).1 + segment.size ≤ j.size
  pub small : j.size ≤ 65535

module _ (modules : List ModuleParts) (resolved : AreResolved modules) (m : ℕ) (parts : ModuleParts)
    (here : slice_get modules m ≡ Some parts) where
  of_part : (segment : Segment) (s : ℕ) (before after : List Segment) → all_segments modules ≡ before ++ segment ∷ after
      → part_of modules m s ≡ ((part_after before segment).number, (part_after before segment).offset)
      → IsPartOf modules m s segment
  of_part segment s before after whole value =
      let all : List Segment = all_segments modules in
      let first = earlier_spot before segment after in
      let f : Segment = first.f in
      let k : ℕ = (part_after before segment).number in
      let at : slice_get (firsts all) k ≡ Some f = ap (λ (xs : List Segment). slice_get (firsts xs) k) whole
      ∙ first.at in
      let end : (part_after before segment).offset + segment.size ≤ end_after 0
      (parts_with (before ++ segment ∷ after) f) =
      end_by before segment after (is_relocatable segment.reloc) f refl first.same in
      record {
        j = joined_of all f;
        at = ap (λ (p : ℕ × ℕ). slice_get (segments_of modules) p.0) value
            ∙ slice_get-map (joined_of all) (firsts all) k ∙ ap (option_map (joined_of all)) at;
        kind = kind_by modules resolved k f at before after segment whole first.same;
        inside = omega (
          arith,
          end,
          ap (λ (p : ℕ × ℕ). p.1) value,
          ap (λ (xs : List Segment). end_after 0 (parts_with xs f)) whole,
        );
        small = small modules resolved k f at;
      }

  pub part_inside : (s : ℕ) (segment : Segment) → numbered parts.segments s ≡ Some segment
      → IsPartOf modules m s segment
  part_inside zero segment h = absurd (cc h)
  part_inside (suc index) segment h =
      let items : ModuleParts → List Segment = λ p. p.segments in
      let t : IsThere items modules m (suc index) =
      record { holder = parts; is = here; index = index; number = refl; item = segment; at = h } in
      let all : List Segment = all_segments modules in
      let n : ℕ = length (flat_map items (take m modules)) + index in
      let is : slice_get all n ≡ Some segment = get_flat items modules m index parts segment here h in
      let cut : take n all ≡ all_segments (take m modules) ++ take index parts.segments =
      take_flat items modules m index parts here (omega (arith, slice_get_within parts.segments index segment h)) in
      let one_less : suc index - 1 ≡ index = omega arith in
      let before : segments_before modules m (suc index) ≡ all_segments (take m modules) ++ take index parts.segments =
      ap (λ (o : Option ModuleParts). all_segments (take m modules)
      ++ option_map_or (λ (chosen : ModuleParts). take (suc index - 1) chosen.segments) o []) here
      ∙ ap (λ (k : ℕ). all_segments (take m modules) ++ take k parts.segments) one_less in
      let read : List Segment → Segment → ℕ × ℕ = λ b x. ((part_after b x).number, (part_after b x).offset) in
      of_part segment (suc index) (take n all) (drop (suc n) all) (around all n segment is)
      (ap (λ (o : Option Segment). option_map_or (λ (x : Segment). read (segments_before modules m (suc index)) x) o
      (0, 0)) (found items modules m (suc index) t)
      ∙ ap (λ (b : List Segment). read b segment) (before ∙ sym cut))
