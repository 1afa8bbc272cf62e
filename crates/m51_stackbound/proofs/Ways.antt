-- The table of how paths continue: of the ways in which points give a depth it keeps the one that comes first.
use Rattle.m51_stackbound.proofs.Common.{◌≡◌, ◌<◌, ◌+◌, ℕ, List, [], length, get_or, set, take, replicate, refl, ap}
use Rattle.m51_stackbound.proofs.Common.{arith, ◌⊎◌, inl, inr, Option, Some, common_steps, get_or-set_other, length-set}
use Rattle.m51_stackbound.proofs.Common.{LayoutParts, Start, At, same_or_not, Next, Point, depth_in, next_in, AreNexts}
use Rattle.m51_stackbound.proofs.Common.{call_of, rank}
use Rattle.m51_stackbound.specs.declared.paths.Next.TheVariants.{Unknown, Ends, Calls}
use Rattle.m51_stackbound.specs.Nexts.{next_by, earlier, IsNoLater, Gives, IsEarliest}
use Rattle.m51_stackbound.proofs.Leasts.{front_cases, front_kept, front_next}
use Rattle.m51_stackbound.proofs.Raised.{rank_same}

earlier_second : (a b : Next) → IsNoLater (earlier a b) b
earlier_second a b = grind arith

earlier_cases : (a b : Next) → (earlier a b ≡ a) ⊎ (earlier a b ≡ b)
earlier_cases a b = grind arith

-- what the ways say of heights
pub ends_from : (depths : List ℕ) (p : Point) (o : Option ℕ) → p.height ≡ depth_in depths p.start
    → next_by depths p o ≡ Ends
unfolding next_by
ends_from depths p o h = grind arith

pub calls_from : (depths : List ℕ) (p : Point) (o : Option ℕ) (to : ℕ) → o ≡ Some to
    → p.height + 2 + depth_in depths (At to) ≡ depth_in depths p.start → next_by depths p o ≡ Calls to
unfolding next_by
calls_from depths p o to e h = grind arith

-- a call that gives the depth
pub record IsGiving (depths : List ℕ) (p : Point) (o : Option ℕ) (to : ℕ) : Type 0 where
  pub calls : o ≡ Some to
  pub sum : p.height + 2 + depth_in depths (At to) ≡ depth_in depths p.start

abbrev pub Says : List ℕ → Point → Option ℕ → Next → Type 0
Says depths p o Unknown = Unit {0}
Says depths p o Ends = p.height ≡ depth_in depths p.start
Says depths p o (Calls to) = IsGiving depths p o to

pub says : (depths : List ℕ) (p : Point) (o : Option ℕ) (n : Next) → next_by depths p o ≡ n → Says depths p o n
unfolding next_by
says depths p o n h = rw (← h) (grind arith)

module _ (l : LayoutParts) (image : List ℕ) (points : List Point) (depths : List ℕ) where
  pub nexts_none : (count : ℕ) (nexts : List Next) → count ≡ 65537 → nexts ≡ replicate count Unknown
      → AreNexts l image [] depths nexts
  nexts_none count nexts is e = grind (arith, common_steps)

  module _ (i : ℕ) (d : Point) (below : i < length points) where
    abbrev here : Point
    here = get_or points i d

    abbrev way : Next
    way = next_by depths here (call_of l image here)

    kept : (start : Start) (next : Next) → Gives l image (take i points) depths start next
        → Gives l image (take (i + 1) points) depths start next
    kept start next g = grind (arith, front_kept)

    newest : (start : Start) → here.start ≡ start → Gives l image (take (i + 1) points) depths start way
    newest start s = grind (arith, here, front_next)

    -- the start of the newest point
    one_more : (start : Start) (old : Next) → here.start ≡ start → IsEarliest l image (take i points) depths start old
        → IsEarliest l image (take (i + 1) points) depths start (earlier old way)
    one_more start o s h = record {
      given = grind (arith, earlier_cases o way, kept start o, newest start s);
      earliest = λ p k q. grind (arith, front_cases points i d p below k, earlier_second o way);
    }

    pub nexts_more : (old new : List Next) → rank here.start < length old
        → new ≡ set old (rank here.start) (earlier (next_in old here.start) way)
        → AreNexts l image (take i points) depths old
        → AreNexts l image (take (i + 1) points) depths new
    nexts_more old new inside is h = rw is (record {
      len = grind (arith, length-set);
      each = λ start. elim (same_or_not (rank start) (rank here.start)) [
        | inl e ↦
            grind (
              arith,
              common_steps,
              rank_same start here.start e,
              one_more here.start (next_in old here.start) refl (h.each here.start),
            )
        | inr ne ↦ rw (get_or-set_other old (rank here.start) (rank start) (earlier (next_in old here.start) way)
            Unknown ne)
            (record {
              given = grind (arith, kept, h.each start);
              earliest = λ p k q. grind (arith, front_cases points i d p below k, h.each start, ap rank);
            })
      ];
    })
