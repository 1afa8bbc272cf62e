-- The units that the records name: the walks that they form, how any two of them are related, and how often each is
-- named.
use Rattle.m51_monitor.proofs.Common.{◌≡◌, ◌≢◌, inl, inr, ℕ, suc, ◌<◌, ◌≤◌, List, []}
use Rattle.m51_monitor.proofs.Common.{◌∷◌, ◌++◌, length, refl, sym, arith, LayoutParts, IsSound, Cause, Call, Interrupt}
use Rattle.m51_monitor.proofs.Common.{IsWalkAbove, ReturnRecord, Records, units_named, named_over, first_or, running}
use Rattle.m51_monitor.proofs.Common.{BeginsAt, AreWalksOver, AreWalks, AreRelatedAll, AreActivations, times}
use Rattle.m51_monitor.proofs.Common.{is_unit_among, interrupts}
use Rattle.std.proofs.Common.{append_assoc, flat_map, map}
use Rattle.std.proofs.lemmas.Bool.Decides.{nat_tests}
use Rattle.std.proofs.lemmas.List.{append-nil, length-map}
use Rattle.m51_cells.proofs.Members.{Every, In, Pairs, contains_in, every_in, every_of, every_weaker, in_contains}
use Rattle.m51_cells.proofs.Members.{in_flat, map_in, pairs_flat, pairs_in, pairs_weaker}
use Rattle.m51_flat.specs.Vectors.{vector_of}
use Rattle.m51_module.specs.Conflict.{Same, Before, After, FirstUnderNone, SecondUnderNone, UnderTwo}
use Rattle.m51_module.specs.Plan.{UnitLiesUnder, UnitsRelated, layout_graph}
use Rattle.m51_module.specs.Walks.{Reaches}
use Rattle.m51_module.proofs.Reach.{reach_edge, reach_on, under_on, under_root}
use Rattle.m51_module.proofs.Units.{root_below}
use Rattle.m51_monitor.specs.Activity.{MayEnter}
use Rattle.m51_monitor.specs.Records.{WalksOn, naming, naming_over, runs_also}
use Rattle.m51_monitor.proofs.Lists.{among_once, no_plus, times_append, times_flat, times_once, few_of}

-- A walk from a root, the last unit first: each unit reaches those before it, and lies under the root.
record IsWalk (l : LayoutParts) (v : ℕ) (us : List ℕ) : Type 0 where
  leads : Pairs (λ t a. Reaches l.edges a t) us
  under : Every (UnitLiesUnder l v) us

walk_is : (l : LayoutParts) (v : ℕ) (us : List ℕ) → BeginsAt l v us → IsWalk l v us
walk_is l v [] h = absurd h
walk_is l v (u ∷ []) h = record { leads = (tt, tt); under = (under_root (layout_graph l) v u h, tt) }
walk_is l v (t ∷ u ∷ us) h =
    let w = walk_is l v (u ∷ us) h.1 in
    let before = every_weaker (λ a. Reaches l.edges a u) (λ a. Reaches l.edges a t) us
    (λ a r. reach_on l.edges a u t r h.0) w.leads.0 in
    record {
      leads = ((reach_edge l.edges u t h.0, before), w.leads);
      under = (under_on (layout_graph l) v u t w.under.0 h.0, w.under);
    }

-- a walk, and then units along edges from its last
begins_on : (l : LayoutParts) (v : ℕ) (top more us : List ℕ) → BeginsAt l v top
    → WalksOn l.edges (first_or (top ++ more) 0) us → BeginsAt l v (us ++ top)
begins_on l v [] more us b h = absurd b
begins_on l v (t ∷ top) more [] b h = b
begins_on l v (t ∷ top) more (u ∷ []) b h = (h.0, b)
begins_on l v (t ∷ top) more (u ∷ w ∷ us) b h = (h.0, begins_on l v (t ∷ top) more (w ∷ us) b h.1)

-- The units are the walks from the roots that run, the topmost root first, each with its root's vector.
record Walks (l : LayoutParts) (busy us : List ℕ) : Type 0 where
  vector : ℕ
  top : List ℕ
  rest : List (ℕ × List ℕ)
  are : Every (λ w. BeginsAt l w.0 w.1) ((vector, top) ∷ rest)
  apart : Pairs (λ v w. v.0 ≢ w.0) ((vector, top) ∷ rest)
  busy_is : busy ≡ vector ∷ map (λ w. w.0) rest
  units_are : us ≡ top ++ flat_map (λ w. w.1) rest

walks_above : (l : LayoutParts) (busy below : List ℕ) (cause : Cause) (us : List ℕ) → IsWalkAbove l below busy cause us
    → Walks l busy below → Walks l (runs_also cause busy) (us ++ below)
walks_above l busy below Call us h w = record {
  vector = w.vector;
  top = us ++ w.top;
  rest = w.rest;
  are = (begins_on l w.vector w.top _ us w.are.0 (rw w.units_are at h), w.are.1);
  apart = w.apart;
  busy_is = w.busy_is;
  units_are = rw (w.units_are, append_assoc) refl;
}
walks_above l busy below (Interrupt source) us h w =
    let rest : List (ℕ × List ℕ) = (w.vector, w.top) ∷ w.rest in
    record {
      vector = vector_of source;
      top = us;
      rest = rest;
      are = (h.0, w.are);
      apart = (
        every_of (λ x. vector_of source ≢ x.0) rest
            (λ x i e. h.1 (rw e (contains_in busy x.0 (rw w.busy_is (map_in (λ x. x.0) rest x i))))),
        w.apart,
      );
      busy_is = rw w.busy_is refl;
      units_are = rw w.units_are refl;
    }

walks : (l : LayoutParts) (reset : List ℕ) (rs : List ReturnRecord) → AreWalksOver l reset rs
    → Walks l (running rs) (named_over reset rs)
walks l reset [] h = record {
  vector = 0;
  top = reset;
  rest = [];
  are = (h, tt);
  apart = (tt, tt);
  busy_is = refl;
  units_are = sym (append-nil reset);
}
walks l reset (r ∷ rs) h = walks_above l _ _ r.cause r.units h.0 (walks l reset rs h.1)

turned : (l : LayoutParts) (a b : ℕ) → UnitsRelated l a b → UnitsRelated l b a
turned l a b (Same e) = Same (sym e)
turned l a b (Before r) = After r
turned l a b (After r) = Before r
turned l a b (FirstUnderNone h) = SecondUnderNone h
turned l a b (SecondUnderNone h) = FirstUnderNone h
turned l a b (UnderTwo x y ne p q) = UnderTwo y x (λ e. ne (sym e)) q p

-- units of one walk reach each other, and those of two lie under different roots
related : (l : LayoutParts) (busy us : List ℕ) → Walks l busy us → Pairs (UnitsRelated l) us
related l busy us h =
    let all : List (ℕ × List ℕ) = (h.vector, h.top) ∷ h.rest in
    let is = λ (w : ℕ × List ℕ) (i : In w all). walk_is l w.0 w.1 (every_in (λ w. BeginsAt l w.0 w.1) all w h.are i) in
    rw h.units_are (pairs_flat (λ w. w.1) (UnitsRelated l) (λ v w. v.0 ≢ w.0) all h.apart
    (λ w i. pairs_weaker (λ t a. Reaches l.edges a t) (UnitsRelated l) w.1 (λ t a r. After r) (is w i).leads)
    (λ v w i j ne a b p q. UnderTwo v.0 w.0 ne (every_in (UnitLiesUnder l v.0) v.1 a (is v i).under p)
    (every_in (UnitLiesUnder l w.0) w.1 b (is w j).under q)))

-- all active units are related
pub all_related : (l : LayoutParts) (a : Records) → AreWalks l a → AreRelatedAll l (units_named a)
all_related l a h = record {
  each = λ u v i j.
      let us = units_named a in
      elim (pairs_in (UnitsRelated l) us u v (related l _ us (walks l a.reset a.returns h.over)) (in_contains us u i)
      (in_contains us v j)) [
        | inl e ↦ Same e
        | inr either ↦ elim either [ inl r ↦ r | inr r ↦ turned l v u r ]
      ];
}

-- How often each unit is named.
module _ (l : LayoutParts) (sound : IsSound l) where
  once : (v : ℕ) (us : List ℕ) → BeginsAt l v us → (u : ℕ) → times us u ≤ 1
  once v us h = times_once us (pairs_weaker (λ t a. Reaches l.edges a t) (λ t a. t ≢ a) us
      (λ t a r e. sound.no_cycle t (rw (← e) at r)) (walk_is l v us h).leads)

  walk_below : (v : ℕ) (us : List ℕ) → BeginsAt l v us → Every (λ u. u < length l.units) us
  walk_below v [] h = tt
  walk_below v (u ∷ []) h = (root_below l v u h, tt)
  walk_below v (t ∷ u ∷ us) h = ((sound.edges u t h.0).1, walk_below v (u ∷ us) h.1)

  pub named_below : (a : Records) → AreWalks l a → (u : ℕ) → In u (units_named a) → u < length l.units
  named_below a h u i =
      let w = walks l a.reset a.returns h.over in
      let all : List (ℕ × List ℕ) = (w.vector, w.top) ∷ w.rest in
      let c = in_flat (λ w. w.1) all u (rw w.units_are at i) in
      every_in (λ u. u < length l.units) c.0.1 u
      (walk_below c.0.0 c.0.1 (every_in (λ w. BeginsAt l w.0 w.1) all c.0 w.are c.1)) c.2

  -- the units of a record are different
  units_once : (busy below : List ℕ) (cause : Cause) (us : List ℕ) (u : ℕ) → IsWalkAbove l below busy cause us
      → Walks l busy below → times us u ≤ 1
  units_once busy below Call us u h w =
      omega (
        arith,
        once w.vector (us ++ w.top) (begins_on l w.vector w.top _ us w.are.0 (rw w.units_are at h)) u,
        times_append us w.top u,
      )
  units_once busy below (Interrupt source) us u h w = once (vector_of source) us h.0 u

  naming_is : (reset : List ℕ) (rs : List ReturnRecord) (u : ℕ) → AreWalksOver l reset rs
      → naming_over reset rs u ≡ times (named_over reset rs) u
  naming_is reset [] u h = sym (among_once reset u (once 0 reset h u))
  naming_is reset (r ∷ rs) u h = omega (
    arith,
    naming_is reset rs u h.1,
    no_plus (is_unit_among r.units u) (naming_over reset rs u),
    among_once r.units u (units_once _ _ r.cause r.units u h.0 (walks l reset rs h.1)),
    times_append r.units (named_over reset rs) u,
  )

  -- the number of records that name a unit is how often it is named
  pub naming_times : (a : Records) (u : ℕ) → AreWalks l a → naming a u ≡ times (units_named a) u
  naming_times a u h = naming_is a.reset a.returns u h.over

  running_many : (rs : List ReturnRecord) → length (running rs) ≡ suc (interrupts rs)
  running_many [] = refl
  running_many (r ∷ rs) = grind (arith, running_many rs)

  pub named_rare : (a : Records) (u : ℕ) → AreActivations l a → times (units_named a) u ≤ 3
  named_rare a u h =
      let w = walks l a.reset a.returns h.stand.over in
      let all : List (ℕ × List ℕ) = (w.vector, w.top) ∷ w.rest in
      let rare = times_flat (λ w. w.1) all u (every_weaker (λ w. BeginsAt l w.0 w.1) (λ w. times w.1 u ≤ 1) all
      (λ w b. once w.0 w.1 b u) w.are) in
      let many = rw (w.busy_is) at (running_many a.returns) in
      rw w.units_are (omega (arith, rare, many, length-map w.rest (λ w. w.0), h.levels))

  pub named_few : (a : Records) → AreActivations l a → length (units_named a) ≤ 3000
  named_few a h =
      let few = few_of 3 (length l.units) (units_named a) (λ u. named_rare a u h)
      (every_of (λ u. u < length l.units) (units_named a) (named_below a h.stand)) in
      omega (arith, few, sound.few_units)

  -- a unit that is named on top of others may be entered
  pub may_enter : (b : Records) (u : ℕ) (us : List ℕ) → units_named b ≡ u ∷ us → AreActivations l b → MayEnter l us u
  may_enter b u us e h =
      let few = rw e at (named_few b h) in
      let rare = rw e at (named_rare b u h) in
      record {
        unit_is = named_below b h.stand u (rw e (inl refl));
        room = omega (arith, few);
        few = grind (arith, nat_tests);
        related = rw e at (all_related l b h.stand);
      }
