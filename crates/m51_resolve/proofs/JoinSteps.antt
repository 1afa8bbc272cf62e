-- Joining one more segment.
-- Joining segments one by one.
-- The numbers of joined segments by their names.
use Rattle.m51_resolve.proofs
use proofs.Common.{◌≡◌, ℕ, zero, suc, ◌+◌, Bool, true, false, cond, not, List, [], ◌∷◌, ◌++◌, map, refl, sym, ap, ◌∙◌}
use proofs.Common.{arith, Option, Some, None, append_assoc, zero-add, append-nil, length-map, list_any_at}
use proofs.Common.{position-Some, slice_get-get_or, filter, list_any, position, slice_get, Segment, are_parts, firsts}
use proofs.Common.{is_relocatable, part_after, parts_after, all_growing, Growing, SegmentPart, ◌*◌, ◌<◌, ◌≤◌, length}
use proofs.Common.{take, get_or, subst, All, take_more, bytes_eq, entry_by_name}
use Rattle.std.specs.Prelude.{slice_set, IfSome}
use Rattle.std.specs.List.{list_all, prefix_len, slice_index_or, position_from}
use Rattle.std.proofs.lemmas.List.{map-append}
use Rattle.std.proofs.lemmas.List.Elements.{filter-append}
use Rattle.std.proofs.lemmas.List.Folds.{list_all-append}
use Rattle.std.proofs.lemmas.Option.{slice_get-map}
use Rattle.m51_cells.specs.declared.kind.Reloc.{Reloc}
use Rattle.m51_cells.proofs.KindLaws.{kind_again, reloc_again}
use Rattle.m51_resolve.specs.WorkJoining.{begun, growing_of, grown, joined_with, Joins, JoinsAt, numbers_from}
use Rattle.m51_resolve.specs.Joining.{end_after, parts_with, start_after}
use Rattle.m51_resolve.specs.Rules.{parts_agree}
use proofs.Alike.{apart_back, filter_none, filter_same, none_of, part_self, parts_back, parts_have, same_parts}
use proofs.Alike.{any_same, not_true}
use proofs.Positions.{none_found}
use proofs.FirstSight.{any_firsts, AreApart, firsts_apart, firsts_append}
use Rattle.std.proofs.Common.{add-zero}
use Rattle.indexmap.specs.IndexMap.{insert_entry}
use Rattle.std.proofs.lemmas.Iterator.Adapters.{position_from-zero}

-- a joined segment of these parts
abbrev growing_from : Segment → List Segment → Growing
growing_from f parts = record { first = f; end = end_after 0 parts; mixed = not (list_all (parts_agree f) parts) }

-- the first part of a joined segment begins at 0
pub start_zero : (reloc : Reloc) → start_after reloc 0 ≡ 0
start_zero reloc = grind arith

-- a part agrees with itself
agree_self : (s : Segment) → parts_agree s s ≡ true
agree_self s = grind (arith, kind_again, reloc_again)

end_push : (end : ℕ) (xs : List Segment) (s : Segment) → end_after end (xs ++ s ∷ [])
    ≡ start_after s.reloc (end_after end xs) + s.size
end_push end [] s = refl
end_push end (x ∷ xs) s = end_push (start_after x.reloc end + x.size) xs s

-- one more part
growing_push : (f : Segment) (xs : List Segment) (s : Segment) → growing_from f (xs ++ s ∷ [])
    ≡ grown (growing_from f xs) s
growing_push f xs s = rw (end_push 0 xs s, list_all-append (parts_agree f) xs (s ∷ [])) (grind arith)

growing_one : (s : Segment) → growing_from s (s ∷ []) ≡ begun s
growing_one s = rw (start_zero s.reloc, zero-add s.size, agree_self s)

module _ (before : List Segment) where
  filter_push : (p : Segment → Bool) (s : Segment) (b : Bool) → p s ≡ b → filter p (before ++ s ∷ [])
      ≡ filter p before ++ cond b (s ∷ []) []
  filter_push p s b h = rw (filter-append p before (s ∷ []), h)

  -- a segment that is no part changes nothing
  kept : (f s : Segment) → are_parts f s ≡ false → growing_of (before ++ s ∷ []) f ≡ growing_of before f
  kept f s h = rw (filter_push (are_parts f) s false h, append-nil (filter (are_parts f) before))

  -- a part is added at the end
  grew : (f s : Segment) → are_parts f s ≡ true → growing_of (before ++ s ∷ []) f ≡ grown (growing_of before f) s
  grew f s h = rw ((parts_have f s h).first, filter_push (are_parts f) s true h)
      (grind (arith, growing_push))

  -- a segment that is seen first begins
  began : (s : Segment) → list_any (are_parts s) before ≡ false → growing_of (before ++ s ∷ []) s ≡ begun s
  began s h = rw (alone (is_relocatable s.reloc) refl) (growing_one s)
    where
      alone : (r : Bool) → is_relocatable s.reloc ≡ r → parts_with (before ++ s ∷ []) s ≡ s ∷ []
      alone true named =
          rw (named, filter_push (are_parts s) s true (part_self s named), filter_none (are_parts s) before h)
      alone false absolute = rw absolute

  -- segments that are no parts with it stay as they are
  kept_all : (s : Segment) (fs : List Segment) → list_any (are_parts s) fs ≡ false
      → map (growing_of (before ++ s ∷ [])) fs ≡ map (growing_of before) fs
  kept_all s [] h = refl
  kept_all s (f ∷ fs) h =
      let k = none_of (are_parts s f) (list_any (are_parts s) fs) h in
      rw (kept f s (apart_back s f k.0), kept_all s fs k.1)

pub none_at : {X : Type 0} (p : X → Bool) (xs : List X) (n : ℕ) (f : X) → list_any p xs ≡ false → slice_get xs n
    ≡ Some f → p f ≡ false
none_at p [] n f h is = cc
none_at p (x ∷ xs) zero f h is = grind arith
none_at p (x ∷ xs) (suc n) f h is = none_at p xs n f (grind arith) is

-- the one that it is a part with grows
set_grown : (before : List Segment) (s : Segment) (fs : List Segment) (n : ℕ) (f : Segment) → AreApart fs
    → slice_get fs n ≡ Some f → are_parts s f ≡ true
    → map (growing_of (before ++ s ∷ [])) fs ≡ slice_set (map (growing_of before) fs) n (grown (growing_of before f) s)
set_grown before s [] n f apart is h = cc
set_grown before s (x ∷ fs) zero f apart is h =
    let same : x ≡ f = cc in
    cc (
      kept_all before s fs (any_same s x (ap (are_parts s) same ∙ h) fs ∙ apart.0),
      grew before f s (parts_back s f h),
    )
set_grown before s (x ∷ fs) (suc n) f apart is h =
    let other : are_parts x f ≡ false = grind (arith, none_at) in
    let not_part : are_parts s x ≡ false = not_true (are_parts s x) (grind (arith, same_parts)) in
    rw (kept before x s (apart_back s x not_part), set_grown before s fs n f apart.1 is h)

-- it is looked for among those seen first
joined_with-map : (before : List Segment) (s : Segment) → joined_with (all_growing before) s
    ≡ position (are_parts s) (firsts before)
joined_with-map before s =
    rw (at (firsts before), length-map (firsts before) (growing_of before)) where
      at : (fs : List Segment) → prefix_len (λ (g : Growing). not (are_parts s g.first)) (map (growing_of before) fs)
          ≡ prefix_len (λ f. not (are_parts s f)) fs
      at [] = refl
      at (f ∷ fs) = rw (at fs)

-- One more segment is joined, and its part is the one that the definition gives.
module _ (before : List Segment) (s : Segment) (part : SegmentPart) (new : List Growing) where
  abbrev AreNext : Type 0
  AreNext = (part ≡ part_after before s) × (new ≡ all_growing (before ++ s ∷ []))

  join_none : joined_with (all_growing before) s ≡ None → JoinsAt (all_growing before) s None part new → AreNext
  join_none none j =
      let fs = firsts before in
      let nowhere : position (are_parts s) fs ≡ None = sym (joined_with-map before s) ∙ none in
      let unseen : list_any (are_parts s) fs ≡ false = grind (arith, none_found) in
      let new_name : list_any (are_parts s) before ≡ false = cc (any_firsts [] before s) in (grind (
        arith,
        filter_none,
        length-map,
        firsts_append,
        map-append,
        kept_all,
        began,
      ))

  join_some : (n : ℕ) → joined_with (all_growing before) s ≡ Some n
      → JoinsAt (all_growing before) s (Some n) part new → AreNext
  join_some n some j =
      let fs = firsts before in
      let found : position (are_parts s) fs ≡ Some n = sym (joined_with-map before s) ∙ some in
      let at = position-Some (are_parts s) fs n s found in
      let f = slice_index_or fs n s in
      let is : slice_get fs n ≡ Some f = slice_get-get_or fs n s at.0 in
      let there : slice_get (all_growing before) n ≡ Some (growing_of before f) = rw (
        slice_get-map (growing_of before)
            fs n,
        is,
      ) in
      let g : j.0 ≡ growing_of before f = cc (j.1, there) in
      let seen : list_any (are_parts s) before ≡ true = sym (any_firsts [] before s)
      ∙ grind (arith, list_any_at) in (
        rw (j.2, g, (parts_have s f at.1).second, ← filter_same s f at.1 before, found),
        rw (j.3, g, firsts_append [] before (s ∷ []), seen, append-nil fs)
            (sym (set_grown before s fs n f (firsts_apart [] before) is at.1)),
      )

  pub joins : Joins (all_growing before) s part new
      → (part ≡ part_after before s) × (new ≡ all_growing (before ++ s ∷ []))
  joins j = grind (arith, join_none, join_some)

pub parts_push : (before xs : List Segment) (s : Segment) → parts_after before (xs ++ s ∷ [])
    ≡ parts_after before xs ++ part_after (before ++ xs) s ∷ []
parts_push before [] s = rw (append-nil before)
parts_push before (x ∷ xs) s = rw (parts_push (before ++ x ∷ []) xs s, append_assoc before (x ∷ []) xs)

-- the first `count` segments are joined
pub record AreJoined (segments : List Segment) (count : ℕ) (growing : List Growing)
    (parts : List SegmentPart) : Type 0 where
  pub grown : growing ≡ all_growing (take count segments)
  pub placed : parts ≡ parts_after [] (take count segments)
  pub ends : All (λ g. g.end ≤ 65790 * count) growing

pub joined_more : {segments : List Segment} {count : ℕ} {growing new : List Growing} {parts : List SegmentPart}
    {s : Segment} (part : SegmentPart)
    → AreJoined segments count growing parts → count < length segments → s ≡ get_or segments count s
    → Joins growing s part new
    → All (λ g. g.end ≤ 65790 * count + 65790) new → AreJoined segments (count + 1) new (parts ++ part ∷ [])
joined_more {segments = segments} {count = count} {new = new} {s = s} part h below is j ends =
    let before = take count segments in
    let step = joins before s part new (subst (λ g. Joins g s part new) h.grown j) in
    let more : take (count + 1) segments ≡ before ++ s ∷ [] = take_more segments count s below
    ∙ ap (λ x. before ++ x ∷ []) (sym is) in
    record {
      grown = rw more step.1;
      placed = rw (h.placed, step.0, more, parts_push [] before s);
      ends = subst (λ (n : ℕ). All (λ g. g.end ≤ n) new) (omega arith) ends;
    }

-- a name's number is the index of the joined segment that a segment of the name is a part of
number_from : (number : ℕ) (growing : List Growing) (s : Segment) → is_relocatable s.reloc ≡ true
    → entry_by_name (numbers_from number growing) s.name ≡ position_from (λ g. are_parts s g.first) number growing
number_from number [] s h = refl
number_from number (g ∷ more) s h = grind (arith, number_from (number + 1) more s h)

pub number_is : (growing : List Growing) (s : Segment) → is_relocatable s.reloc ≡ true
    → entry_by_name (numbers_from 0 growing) s.name ≡ joined_with growing s
number_is growing s h = number_from 0 growing s h
    ∙ sym (position_from-zero (λ (g : Growing). are_parts s g.first) growing)

absolute_from : (number : ℕ) (growing : List Growing) (s : Segment) → is_relocatable s.reloc ≡ false
    → position_from (λ g. are_parts s g.first) number growing ≡ None
absolute_from number [] s h = refl
absolute_from number (g ∷ more) s h = cc (absolute_from (number + 1) more s h)

-- an absolute segment is a part of none
pub absolute_is : (growing : List Growing) (s : Segment) → is_relocatable s.reloc ≡ false → None ≡ joined_with growing s
absolute_is growing s h =
    sym (position_from-zero (λ (g : Growing). are_parts s g.first) growing ∙ absolute_from 0 growing s h)

-- one more joined segment
pub numbers_push : (number : ℕ) (growing : List Growing) (g : Growing)
    → numbers_from number (growing ++ g ∷ [])
    ≡ numbers_from number growing ++ cond (is_relocatable g.first.reloc)
    ((g.first.name, number + length growing) ∷ []) []
numbers_push number [] g = rw (add-zero number)
numbers_push number (x ∷ growing) g =
    let next : number + 1 + length growing ≡ number + suc (length growing) = omega arith in
    rw (numbers_push (number + 1) growing g, next) (grind arith)

-- one that grows keeps its name
pub numbers_set : (number : ℕ) (growing : List Growing) (i : ℕ) (g new : Growing) → slice_get growing i ≡ Some g
    → new.first ≡ g.first
    → numbers_from number (slice_set growing i new) ≡ numbers_from number growing
numbers_set number [] i g new is same = absurd (cc is)
numbers_set number (x ∷ growing) zero g new is same = cc
numbers_set number (x ∷ growing) (suc i) g new is same = cc (numbers_set (number + 1) growing i g new is same)

pub joined_within : (growing : List Growing) (s : Segment) (o : Option ℕ) → o ≡ joined_with growing s
    → IfSome o (λ number. number < length growing)
joined_within growing s o h = grind arith

-- a segment that is seen first has the next number, where it has a name
pub numbers_named : (growing : List Growing) (s : Segment) → is_relocatable s.reloc ≡ true
    → numbers_from 0 growing ++ (s.name, length growing) ∷ [] ≡ numbers_from 0 (growing ++ begun s ∷ [])
numbers_named growing s h = grind (arith, numbers_push)

pub numbers_absolute : (growing : List Growing) (s : Segment) → is_relocatable s.reloc ≡ false → numbers_from 0 growing
    ≡ numbers_from 0 (growing ++ begun s ∷ [])
numbers_absolute growing s h = grind (arith, numbers_push, append-nil)

-- a new name goes last
pub put_last : (es : List (List ℕ × ℕ)) (name : List ℕ) (number : ℕ) → entry_by_name es name ≡ None
    → insert_entry bytes_eq es name number ≡ es ++ (name, number) ∷ []
put_last [] name number h = refl
put_last (e ∷ es) name number h = grind (arith, put_last es name number)
