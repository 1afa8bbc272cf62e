-- Parts lie inside their joined segments.
use Rattle.m51_resolve.proofs
use Rattle.std.proofs.lemmas.Grind.{common_steps}
use proofs.Common.{◌≡◌, ℕ, ◌+◌, ◌<◌, ◌≤◌, Bool, true, false, cond, List, [], ◌∷◌, ◌++◌, length, map, refl, sym, ◌∙◌}
use proofs.Common.{arith, Option, Some, None, length-append, list_any-append, slice_get-get_or, filter, list_any, find}
use proofs.Common.{position, slice_get, unwrap_or, ModuleParts, Segment, all_segments, are_parts, firsts}
use proofs.Common.{is_relocatable, joined_of, part_after, segments_of}
use Rattle.std.proofs.lemmas.Bool.{ltb-false}
use Rattle.std.proofs.lemmas.List.Elements.{filter-append}
use Rattle.std.proofs.lemmas.List.Folds.{Any-from_list_any}
use Rattle.m51_cells.specs.declared.kind.Kind.{Kind}
use Rattle.m51_cells.specs.declared.kind.Reloc.{Reloc}
use Rattle.m51_cells.specs.Kinds.{most_of}
use Rattle.m51_resolve.specs.Joining.{end_after, firsts_after, parts_with, start_after}
use Rattle.m51_resolve.specs.Rules.{is_too_large, large_segment}
use proofs.Alike.{absolute_none, filter_none, filter_same, part_self}
use proofs.FirstSight.{any_firsts}
use proofs.JoinSteps.{start_zero}
use proofs.Positions.{none_found}
pub use Rattle.m51_resolve.proofs.FirstSight.{firsts_append}

number_by : (o : Option ℕ) (count : ℕ) (seen : Bool) (s : Segment) (more : List Segment)
    → ((n : ℕ) → o ≡ Some n → n < count) → (o ≡ None → seen ≡ false)
    → unwrap_or o count < count + length (cond seen more (s ∷ more))
number_by o count seen s more below unseen = grind arith

-- the number of a part is that of a joined segment
pub part_number : (before : List Segment) (s : Segment) (after : List Segment)
    → (part_after before s).number < length (firsts (before ++ s ∷ after))
part_number before s after =
    let fs = firsts before in
    let more = firsts_after (before ++ s ∷ []) after in
    let seen = list_any (are_parts s) before in
    let is : length (firsts (before ++ s ∷ after)) ≡ length fs + length (cond seen more (s ∷ more)) =
    grind (arith, firsts_append, length-append) in
    let number =
    number_by (position (are_parts s) fs) (length fs) seen s more
    (grind arith)
    (λ none. sym (any_firsts [] before s) ∙ none_found (are_parts s) fs none) in
    omega (arith, is, number)

pub end_least : (end : ℕ) (xs : List Segment) → end ≤ end_after end xs
end_least end [] = omega arith
end_least end (x ∷ xs) = grind (arith, end_least (start_after x.reloc end + x.size) xs)

pub end-append : (end : ℕ) (xs ys : List Segment) → end_after end (xs ++ ys) ≡ end_after (end_after end xs) ys
end-append end [] ys = refl
end-append end (x ∷ xs) ys = end-append (start_after x.reloc end + x.size) xs ys

pub filter_at : (p : Segment → Bool) (before : List Segment) (s : Segment) (after : List Segment) → p s ≡ true
    → filter p (before ++ s ∷ after) ≡ filter p before ++ s ∷ filter p after
filter_at p before s after h = rw (filter-append p before (s ∷ after), h)

-- a part begins before the end of its joined segment
pub part_offset : (before : List Segment) (s : Segment) (after : List Segment) → is_relocatable s.reloc ≡ true
    → (part_after before s).offset ≤ end_after 0 (filter (are_parts s) (before ++ s ∷ after))
part_offset before s after named =
    let p : Segment → Bool = are_parts s in
    let start = start_after s.reloc (end_after 0 (filter p before)) in
    rw (filter_at p before s after (part_self s named), end-append 0 (filter p before) (s ∷ filter p after))
    (grind (arith, end_least))

-- where nothing is found, nothing passes
pub find_none : {X : Type 0} (p : X → Bool) (xs : List X) → find p xs ≡ None → list_any p xs ≡ false
find_none p [] h = refl
find_none p (x ∷ xs) h = grind (arith, find_none p xs)

pub any-map : {X Y : Type 0} (q : Y → Bool) (g : X → Y) (xs : List X) → list_any q (map g xs)
    ≡ list_any (λ x. q (g x)) xs
any-map q g [] = refl
any-map q g (x ∷ xs) = rw (any-map q g xs)

pub most_fits : (kind : Kind) (reloc : Reloc) → most_of kind reloc ≤ 65535
most_fits kind reloc = grind arith

-- a joined segment ends in 16 bits where L5 does not come
pub end_fits : (modules : List ModuleParts) (s : Segment) → large_segment modules ≡ None
    → list_any (are_parts s) (all_segments modules) ≡ true
    → end_after 0 (filter (are_parts s) (all_segments modules)) ≤ 65535
end_fits modules s small seen =
    let all = all_segments modules in
    let fs = firsts all in
    let first : list_any (are_parts s) fs ≡ true = any_firsts [] all s ∙ seen in
    let k = Any-from_list_any (are_parts s) fs first in
    let f = k.1 in
    let at : slice_get fs k.0 ≡ Some f = grind (arith, slice_get-get_or) in
    let none : list_any (λ x. is_too_large (joined_of all x)) fs ≡ false =
    grind (arith, any-map)
    ∙ find_none is_too_large (segments_of modules)
    (grind arith) in
    let fits =
    ltb-false (most_of f.kind f.reloc) (end_after 0 (parts_with all f))
    (grind (arith, common_steps)) in
    grind (arith, filter_same)

offset_by : (r : Bool) (modules : List ModuleParts) (before : List Segment) (s : Segment) (after : List Segment)
    → is_relocatable s.reloc ≡ r
    → all_segments modules ≡ before ++ s ∷ after → large_segment modules ≡ None → (part_after before s).offset ≤ 65535
offset_by false modules before s after absolute is small =
    rw (filter_none (are_parts s) before (absolute_none s absolute before), start_zero s.reloc) (omega arith)
offset_by true modules before s after named is small = grind (
  arith,
  common_steps,
  list_any-append (are_parts s) before (s ∷ after),
  part_self s named,
  end_fits modules s small,
  part_offset before s after named,
)

-- the offset of a part fits 16 bits
pub offset_fits : (modules : List ModuleParts) (before : List Segment) (s : Segment) (after : List Segment)
    → all_segments modules ≡ before ++ s ∷ after → large_segment modules ≡ None → (part_after before s).offset ≤ 65535
offset_fits modules before s after is small = grind (arith, offset_by)
