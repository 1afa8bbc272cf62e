-- The starts in a table by addresses, and their list.
use Rattle.m51_stackbound.proofs.Common.{common_steps, ◌≡◌, ◌<◌, ◌+◌, ℕ, Bool, true, false, List, [], ◌∷◌, ◌++◌, length}
use Rattle.m51_stackbound.proofs.Common.{get_or, take, map, replicate, refl, ◌∙◌, arith, ◌⊎◌, cases_lt, get_or-set_same}
use Rattle.m51_stackbound.proofs.Common.{get_or-set_other, length-set, Contains-append_left, Contains-push}
use Rattle.m51_stackbound.proofs.Common.{Contains-push_cases, LayoutParts, Proc, Start, Reset, At, same_or_not, Point}
use Rattle.m51_stackbound.proofs.Common.{is_noted, AreStarts, AreListed, Contains-get_or}
use Rattle.std.proofs.lemmas.List.{get_or-map, length-map, map-append}
use Rattle.std.proofs.lemmas.List.Quantifiers.{all_pairs_push}
use Rattle.m51_stackbound.specs.Listing.{with_start, HasStart, IsListed}
use Rattle.m51_stackbound.proofs.Leasts.{front_cases, front_kept, front_next}
use Rattle.m51_stackbound.proofs.Rooted.{same_address}

pub starts_none : (count : ℕ) (starts : List Bool) → count ≡ 65536 → starts ≡ replicate count false
    → AreStarts [] starts
starts_none count starts is e = grind (arith, common_steps)

module _ (points : List Point) (i : ℕ) (d : Point) (below : i < length points) where
  abbrev here : Point
  here = get_or points i d

  kept : (at : ℕ) → HasStart (take i points) at → HasStart (take (i + 1) points) at
  kept at h = grind (arith, common_steps, front_kept points i d h.point below h.listed)

  newest : (at : ℕ) → here.start ≡ At at → HasStart (take (i + 1) points) at
  newest at s = grind (arith, common_steps, here, front_next points i d below)

  start_cases : (at : ℕ) → HasStart (take (i + 1) points) at → HasStart (take i points) at ⊎ (here.start ≡ At at)
  start_cases at h = grind (arith, common_steps, front_cases points i d h.point below h.listed)

  pub starts_more : (old : List Bool) (start : Start) → here.start ≡ start → ((at : ℕ) → start ≡ At at → at < 65536)
      → AreStarts (take i points) old → AreStarts (take (i + 1) points) (with_start old start)
  starts_more old Reset s few h = grind (arith, kept, start_cases)
  starts_more old (At a) s few h =
      let inside : a < length old = omega (arith, few a refl) in
      record {
        len = length-set old a true ∙ h.len;
        only = λ at k. grind (
          arith,
          same_or_not at a,
          newest at,
          kept at,
          h.only at,
          get_or-set_other old a at true false,
        );
        all = λ at k. grind (
          arith,
          common_steps,
          same_or_not at a,
          get_or-set_same old a true false inside,
          start_cases at k,
          get_or-set_other old a at true false,
          h.all at,
          same_address at a,
        );
      }

abbrev at_of : Proc → ℕ
at_of p = p.at

module _ (l : LayoutParts) (starts : List Bool) (depths : List ℕ) where
  pub listed_none : AreListed l starts depths 0 []
  listed_none = grind (arith, common_steps)

  -- the next address is that of a start
  pub listed_more : (end : ℕ) (procs : List Proc) (p : Proc) → p.at ≡ end → IsListed l starts depths p
      → AreListed l starts depths end procs → AreListed l starts depths (end + 1) (procs ++ p ∷ [])
  listed_more end procs p at_is is h =
      let more : map at_of (procs ++ p ∷ []) ≡ map at_of procs ++ p.at ∷ [] = map-append at_of procs (p ∷ []) in
      record {
        rising = rw more
            (all_pairs_push (λ (one two : ℕ). one < two) (map at_of procs) p.at h.rising
            (λ k d low. grind (
              arith,
              length-map procs at_of,
              get_or-map at_of procs k p d,
              h.below (get_or procs k p),
              Contains-get_or procs k p,
            )));
        below = λ q k. grind (arith, Contains-push_cases procs p q k, h.below q);
        each = λ q k. grind (arith, Contains-push_cases procs p q k, h.each q);
        all = λ at below k. rw more
            (grind (
              arith,
              cases_lt at end,
              h.all at,
              Contains-append_left (map at_of procs) (p.at ∷ []) at,
              Contains-push (map at_of procs) p.at,
            ));
      }

  -- the next address is that of none
  pub listed_same : (end : ℕ) (procs : List Proc) → is_noted starts end ≡ false → AreListed l starts depths end procs
      → AreListed l starts depths (end + 1) procs
  listed_same end procs none h = record {
    rising = h.rising;
    below = λ q k. omega (arith, h.below q k);
    each = h.each;
    all = grind (arith, common_steps, cases_lt);
  }
