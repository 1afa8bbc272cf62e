-- Items that are listed one after another, and those of two functions that agree.
use Rattle.std.proofs.Common.{◌≡◌, ℕ, zero, suc, ◌+◌, ◌-◌, ◌<◌, List, [], ◌++◌, Option, refl, ◌∙◌, arith, append_assoc}
use Rattle.std.proofs.Common.{append-nil}
use Rattle.std.specs.Io.KnownBytes.{Appends}
use Rattle.std.proofs.KnownBytes.{Appends-trans, Appends-nil}
use Rattle.m51_cells.specs.Outside.{AppendsFront}
use Rattle.m51_cells.proofs.Fronts.{front_after}
use Rattle.m51_steps.specs.Listing.{listed_from, mark_after, marked}

-- the items before a number are written, and those from it on are to come
pub record IsListing (before now : Option (List ℕ)) (item : ℕ → List ℕ) (first between : List ℕ) (count at : ℕ)
    (mark : List ℕ) : Type 0 where
  pub sofar : List ℕ
  pub text : Appends before now sofar
  pub rest : listed_from item first between count 0 ≡ sofar ++ listed_from item mark between (count - at) at

pub listing_start : (before : Option (List ℕ)) (item : ℕ → List ℕ) (first between : List ℕ) (count : ℕ)
    → IsListing before before item first between count 0 first
listing_start before item first between count = let none : count - 0 ≡ count = omega arith in
    record { sofar = []; text = Appends-nil before; rest = rw none refl }

module _ {before now : Option (List ℕ)} {item : ℕ → List ℕ} {first between : List ℕ} {count at : ℕ} {mark : List ℕ}
    (listing : IsListing before now item first between count at mark) (after : Option (List ℕ)) where
  module _ (it : List ℕ) (below : at < count) (is : it ≡ item at) where
    to_come : listed_from item mark between (count - at) at
        ≡ marked mark it ++ listed_from item (mark_after mark between it) between (count - suc at) (suc at)
    unfolding listed_from
    to_come = let more : count - at ≡ suc (count - suc at) = omega arith in rw (more, is) refl

    pub listing_on : (next : List ℕ) → next ≡ mark_after mark between it → Appends now after (marked mark it)
        → IsListing before after item first between count (at + 1) next
    listing_on next then_is written =
        let same : at + 1 ≡ suc at = omega arith in
        record {
          sofar = listing.sofar ++ marked mark it;
          text = Appends-trans before now after listing.sofar (marked mark it) listing.text written;
          rest = listing.rest ∙ rw (to_come, append_assoc listing.sofar, same, then_is) refl;
        }

    -- a write has failed in an item
    pub listing_cut : AppendsFront now after (marked mark it)
        → AppendsFront before after (listed_from item first between count 0)
    listing_cut cut =
        rw (listing.rest, to_come) (front_after before now after listing.sofar (marked mark it) _ listing.text cut)

-- all items are written
pub listing_end : {before now : Option (List ℕ)} {item : ℕ → List ℕ} {first between : List ℕ} {count at : ℕ}
    {mark : List ℕ} → IsListing before now item first between count at mark → at ≡ count
    → Appends before now (listed_from item first between count 0)
unfolding listed_from
listing_end {before} {now} {item} {first} {between} {count} {at} {mark} listing all =
    let none : count - at ≡ 0 = omega arith in
    let rest : listed_from item first between count 0 ≡ listing.sofar =
    listing.rest ∙ rw none (append-nil listing.sofar) in
    rw rest listing.text

-- functions that agree give the same
pub listed_same : (f g : ℕ → List ℕ) (mark between : List ℕ) (left at : ℕ)
    → ((k : ℕ) → k < at + left → f k ≡ g k) → listed_from f mark between left at ≡ listed_from g mark between left at
unfolding listed_from
listed_same f g mark between zero at same = refl
listed_same f g mark between (suc left) at same =
    let here : f at ≡ g at = same at (omega arith) in
    rw (
      here,
      listed_same f g (mark_after mark between (g at)) between left (suc at)
          (λ k below. same k (omega (arith, below))),
    ) refl
