-- What each placed extent is, and that each joined segment is placed once.
use Rattle.m51_place.proofs
use proofs.Common.{AreKept, fails_before_first, position_or_len, slice_get-get_or, slice_get_within, true_from_ne_false}
use proofs.Common.{IsAllowed, JoinedSegment, absolutes_from, append_assoc, length-append, shared_extents, slice_get-map}
use proofs.Common.{AreResolved, Control, ModuleParts, cons_option, is_absolute, place_after, shared_after, with_numbers}
use proofs.Common.{GraphParts, IsNumbered, append-nil, false≢true, ranked_from, reserves_of, segments_of, unit_titles}
use proofs.Common.{IsSegment, at_number, extent_at, extent_of, first_met, is_number, length-map, located_at, located_of}
use proofs.Common.{Absolute, IsFit, IsInside, Numbered, Overlaid, nat_tests, none-some, same_Some, shared_at, slice_get}
use proofs.Common.{Direct, Number, Ok, Option, Placed, Ranked, Refusal, absolute, banks_of, find_at, graph_of, position}
use proofs.Common.{Pairs, Plain, Reloc, Result, Xdata, arith, eq-eqb, filter, get_or, length, one_if, own_at, unless, ℕ}
use proofs.Common.{Bool, Code, Fits, Kind, List, None, Some, Xram, codes, false, find, refl, share, subst, true, zero}
use proofs.Common.{Abs, All, Ram, [], ap, map, suc, sym, ◌*◌, ◌++◌, ◌+◌, ◌-◌, ◌<◌, ◌∙◌, ◌∷◌, ◌≡◌, ◌≢◌, ◌≤◌}
use Rattle.m51_cells.proofs.Members.{contains_in, every_append, every_weaker, pairs_push, total-append, total_none}
use Rattle.m51_cells.proofs.Members.{Every, all_every, every_all, every_map, every_of, in_filter, total}
use Rattle.m51_control.specs.declared.control.Control.TheVariants.{Reserve}
use Rattle.m51_graph.proofs.Judged.{none_of_both}
use Rattle.m51_graph.specs.Locals.{overlaid_by}
use Rattle.m51_module.specs.Validity.{IsValid}
use Rattle.m51_resolve.proofs.Positions.{none_found}
use Rattle.std.proofs.lemmas.List.Quantifiers.{position-Some}
use Rattle.std.proofs.lemmas.List.Sorted.{length_permutation}
use Rattle.m51_place.specs.Fixed.{bank, bank_if, fixed_of, reserve_as, reserve_of, uses, without_number}
use Rattle.m51_place.specs.Placement.{joined_index, mark_of}
use proofs.Free.{KeepApart, all_fail, are_after, at_base, later_every, later_total, share_tells}
use proofs.Piled.{own_of}
use proofs.Ranks.{IsRankedOf, Program, absolute_at, absolutes_are, as_many_own, extent_count, order_moves, ranked_count}
use proofs.Ranks.{IsOf, is_fixed, joined_at, once, order, place_is, program, ranked, segments, shape}

-- What each placed extent is.

-- the extent is the joined segment of that number, whose owner is that
pub record IsSegmentOf (g : GraphParts) (segments : List JoinedSegment) (number : ℕ) (p : Placed) : Type 0 where
  pub j : JoinedSegment
  pub is : slice_get segments number ≡ Some j
  pub title : p.title ≡ j.title
  pub kind : p.kind ≡ j.kind
  pub reloc : p.reloc ≡ j.reloc
  pub size : p.size ≡ j.size
  pub room : p.kind ≡ Code → p.base + p.size ≤ 65536
  pub segment : IsSegment p.mark
  pub fixed : is_absolute j.reloc ≡ true → (p.mark ≡ Absolute) × (p.base ≡ j.base)
  pub absolute : p.mark ≡ Absolute → is_absolute j.reloc ≡ true
  pub overlaid : p.mark ≡ Overlaid → (unit : ℕ) × (own_at g number ≡ Some unit)
  pub owned : (unit : ℕ) → own_at g number ≡ Some unit → p.mark ≡ Overlaid

-- what a placed extent is
pub record IsSpot (g : GraphParts) (segments : List JoinedSegment) (e : Numbered) : Type 0 where
  pub fit : IsFit e.placed
  pub numbered : (number : ℕ) → e.number ≡ Some number → IsSegmentOf g segments number e.placed
  pub free : e.number ≡ None → IsSegment e.placed.mark → ⊥

pub number_of : (number : Option ℕ) → (number ≡ None → ⊥) → (n : ℕ) × (number ≡ Some n)
number_of None h = absurd (h refl)
number_of (Some n) h = (n, refl)

-- an extent is a joined segment by its mark
pub segment_at : {g : GraphParts} {js : List JoinedSegment} (e : Numbered) → IsSpot g js e → IsSegment e.placed.mark
    → (n : ℕ) × (e.number ≡ Some n) × IsSegmentOf g js n e.placed
segment_at e spot segment =
    let n = number_of e.number (λ none. spot.free none segment) in (n.0, n.1, spot.numbered n.0 n.1)

pub overlaid_at : {g : GraphParts} {js : List JoinedSegment} (e : Numbered) → IsSpot g js e → e.placed.mark ≡ Overlaid
    → (n : ℕ) × (e.number ≡ Some n) × IsSegmentOf g js n e.placed
overlaid_at e spot mark = segment_at e spot (subst IsSegment (sym mark) tt)

-- what fits lies inside its memory
fits_inside : (kind : Kind) (reloc : Reloc) (base size : ℕ) → Fits kind reloc base size
    → IsInside (extent_of kind base size)
fits_inside kind reloc base size h c covers =
    let from = covers.from in let below = covers.below in grind (arith, h, from, below)

-- what fits in program memory ends in it, but for an empty segment of a block, whose base is an address
room_of : (kind : Kind) (reloc : Reloc) (base size : ℕ) → (Fits Code reloc base size → base ≤ 65536)
    → Fits kind reloc base size → kind ≡ Code → base + size ≤ 65536
room_of kind reloc base size low h code = let fits = rw code at h in let below = low fits in grind (arith, fits, below)

module _ (c : Program) where
  -- the own unit of a joined segment is that of the graph
  own_is_of : (number : ℕ) (j : JoinedSegment) → slice_get (segments c) number ≡ Some j
      → own_at c.g number ≡ overlaid_by (unit_titles (segments c)) c.controls j
  own_is_of number j at = rw ((shape c).own, slice_get-map, at)

  marked : (number : ℕ) (j : JoinedSegment) (unit : ℕ) → slice_get (segments c) number ≡ Some j
      → own_at c.g number ≡ Some unit → j.overlay ≡ true
  marked number j unit at owner =
      true_from_ne_false j.overlay (λ bare. none-some unit (rw (own_is_of number j at, bare) at owner))

  -- an absolute segment is not overlaid
  pub bare_absolute : (number : ℕ) (j : JoinedSegment) → slice_get (segments c) number ≡ Some j
      → is_absolute j.reloc ≡ true → own_at c.g number ≡ None
  bare_absolute number j at abs = rw (own_is_of number j at, (joined_at c number j at).plain abs) refl

  -- a joined segment that fits where it is placed
  spot_of : (number : ℕ) (reloc : Reloc) (p : Placed) → IsSegmentOf c.g (segments c) number p
      → Fits p.kind reloc p.base p.size → IsSpot c.g (segments c) (record { placed = p; number = Some number })
  spot_of number reloc p of fits =
      let joined = joined_at c number of.j of.is in
      record {
        fit = record {
          kind = rw of.kind joined.kind;
          inside = fits_inside p.kind reloc p.base p.size fits;
          absolute = λ e. rw of.size (joined.some (of.absolute e));
          code = λ code e. let own = of.overlaid e in
              joined.code (marked number of.j own.0 of.is own.1) (sym of.kind ∙ code);
        };
        numbered = λ n e. rw (← same_Some number n e) of;
        free = λ e. absurd (cc e);
      }

  absolute_spot : (number : ℕ) (j : JoinedSegment) → slice_get (segments c) number ≡ Some j → is_absolute j.reloc ≡ true
      → IsSpot c.g (segments c) (absolute number j)
  absolute_spot number j at abs =
      let fits = (joined_at c number j at).fits abs in
      spot_of number Abs (absolute number j).placed (record {
        j = j;
        is = at;
        title = refl;
        kind = refl;
        reloc = refl;
        size = refl;
        room = room_of j.kind Abs j.base j.size
            (λ h. let ends : j.base + j.size ≤ 65536 = h in omega (arith, ends)) fits;
        segment = tt;
        fixed = λ _. (refl, refl);
        absolute = λ _. abs;
        overlaid = λ e. absurd (cc e);
        owned = λ unit owner. absurd (cc (bare_absolute number j at abs, owner));
      }) fits

  -- a relocatable segment that is placed
  placed_spot : (t : Ranked) (base : ℕ) → IsRankedOf c.g c.controls (segments c) t → base < 65536
      → Fits t.segment.kind t.segment.reloc base t.segment.size → IsSpot c.g (segments c) (located_at t base)
  placed_spot t base h low fits =
      let j = t.segment in
      spot_of t.number j.reloc (located_at t base).placed (record {
        j = j;
        is = h.segment;
        title = refl;
        kind = refl;
        reloc = refl;
        size = refl;
        room = room_of j.kind j.reloc base j.size (λ _. omega (arith, low)) fits;
        segment = plain_segment t.own;
        fixed = λ abs. absurd (false≢true (sym h.relocatable ∙ abs));
        absolute = λ e. grind (arith, e);
        overlaid = λ e.
            let marked : mark_of t.own ≡ Overlaid = e in
            let owner = number_of t.own (λ none. cc (rw none at marked)) in
            (owner.0, sym h.own ∙ owner.1);
        owned = λ unit owner. ap mark_of (h.own ∙ owner);
      }) fits
    where
      plain_segment : (owner : Option ℕ) → IsSegment (mark_of owner)
      plain_segment None = tt
      plain_segment (Some unit) = tt

-- The fixed extents: what each is, which joined numbers they have, and that no two of them share a cell.

-- an extent that is no segment
pub record IsFree (e : Numbered) : Type 0 where
  pub number : e.number ≡ None
  pub fit : IsFit e.placed
  pub free : IsSegment e.placed.mark → ⊥

free_of : (p : Placed) → p.kind ≢ Number → IsInside (extent_at p) → (IsSegment p.mark → ⊥) → IsFree (without_number p)
free_of p kind inside free = record {
  number = refl;
  fit = record {
    kind = kind;
    inside = inside;
    absolute = λ e. absurd (free (subst IsSegment (sym e) tt));
    code = λ _ e. free (subst IsSegment (sym e) tt);
  };
  free = free;
}

bank_free : (title : List ℕ) (base : ℕ) → base ≤ 24 → IsFree (bank title base)
bank_free title base low = free_of (bank title base).placed (λ e. cc e)
    (λ c h. let below : c.at < 8 * base + 8 * 8 = h.below in omega (arith, low, below)) (λ h. h)

-- extents that are no segments, and how many there are at most
record AreFree (es : List Numbered) (most : ℕ) : Type 0 where
  each : Every IsFree es
  few : length es ≤ most

free_append : {es fs : List Numbered} {n m : ℕ} → AreFree es n → AreFree fs m → AreFree (es ++ fs) (n + m)
free_append {es} {fs} h k = record {
  each = every_append IsFree es fs h.each k.each;
  few = omega (arith, length-append es fs, h.few, k.few);
}

bank_if_free : (used : Bool) (title : List ℕ) (base : ℕ) → base ≤ 24 → AreFree (bank_if used title base) 1
bank_if_free true title base low = record { each = (bank_free title base low, tt); few = omega arith }
bank_if_free false title base low = record { each = tt; few = omega arith }

banks_free : (modules : List ModuleParts) → AreFree (banks_of modules) 4
banks_free modules =
    free_append (free_append (free_append (bank_if_free true (codes "BANK0") 0 (omega arith))
    (bank_if_free (uses modules 2) (codes "BANK1") 8 (omega arith)))
    (bank_if_free (uses modules 4) (codes "BANK2") 16 (omega arith)))
    (bank_if_free (uses modules 8) (codes "BANK3") 24 (omega arith))

reserve_free : (control : Control) (e : Numbered) → IsAllowed control → reserve_of control ≡ Some e → IsFree e
reserve_free (Reserve Ram low high) e allowed is = rw (← same_Some _ e is)
    (free_of (reserve_as Direct low high).placed (λ e. cc e)
    (λ c h. let below : c.at < 8 * low + 8 * (high - low + 1) = h.below in
    omega (arith, allowed.0, allowed.1, below)) (λ h. h))
reserve_free (Reserve Xram low high) e allowed is = rw (← same_Some _ e is)
    (free_of (reserve_as Xdata low high).placed (λ e. cc e)
    (λ c h. let below : c.at < low + (high - low + 1) = h.below in omega (arith, allowed.0, allowed.1, below)) (λ h. h))
reserve_free control e allowed is = grind arith

-- what one line adds
next_free : (found : Option Numbered) (rest : List Numbered) (n : ℕ) → ((e : Numbered) → found ≡ Some e → IsFree e)
    → AreFree rest n → AreFree (cons_option found rest) (suc n)
next_free None rest n free h = record { each = h.each; few = omega (arith, h.few) }
next_free (Some e) rest n free h = record { each = (free e refl, h.each); few = omega (arith, h.few) }

reserves_free : (controls : List (ℕ × Control)) → Every (λ line. IsAllowed line.1) controls
    → AreFree (reserves_of controls) (length controls)
reserves_free [] allowed = record { each = tt; few = omega arith }
reserves_free (line ∷ more) allowed =
    next_free (reserve_of line.1) (reserves_of more) (length more) (λ e. reserve_free line.1 e allowed.0)
    (reserves_free more allowed.1)

absolutes_few : (number : ℕ) (rest : List JoinedSegment) → length (absolutes_from number rest) ≤ length rest
absolutes_few number [] = omega arith
absolutes_few number (j ∷ more) = grind (arith, absolutes_few (number + 1) more)

module _ (c : Program) where
  abbrev others : List Numbered
  others = banks_of c.modules ++ reserves_of c.controls

  abbrev pub fixed : List Numbered
  fixed = fixed_of c.modules c.controls (segments c)

  free : AreFree others (4 + length c.controls)
  free = free_append (banks_free c.modules) (reserves_free c.controls (all_every _ c.controls c.kept.each))

  -- what holds of all fixed extents
  fixed_each : (P : Numbered → Type 0) → ((e : Numbered) → IsFree e → P e)
      → ((number : ℕ) (j : JoinedSegment) → slice_get (segments c) number ≡ Some j → is_absolute j.reloc ≡ true
      → P (absolute number j)) → Every P fixed
  fixed_each P holds each =
      let all = with_numbers 0 (segments c) in
      every_append P others (absolutes_from 0 (segments c)) (every_weaker IsFree P others holds free.each)
      (rw (absolutes_are 0 (segments c)) (every_map absolute_at P _ (every_of _ (filter is_fixed all) (λ p i.
      let is = in_filter is_fixed all p i in each p.0 p.1 (at_number (segments c) p is.0) is.1))))

  pub fixed_spots : Every (IsSpot c.g (segments c)) fixed
  fixed_spots = fixed_each (IsSpot c.g (segments c))
      (λ e h. record { fit = h.fit; numbered = λ n at. absurd (cc (h.number, at)); free = λ _. h.free })
      (absolute_spot c)

  -- they are not overlaid
  pub fixed_bare : Every (λ e. own_of c.g e ≡ None) fixed
  fixed_bare = fixed_each (λ e. own_of c.g e ≡ None) (λ e h. rw h.number) (bare_absolute c)

  fixed_count : (m : ℕ) → total (extent_count m) fixed ≡ total (extent_count m) (absolutes_from 0 (segments c))
  fixed_count m =
      omega (
        arith,
        total-append (extent_count m) others (absolutes_from 0 (segments c)),
        total_none (extent_count m) others (every_weaker IsFree _ others (λ e h. rw h.number) free.each),
      )

  fixed_few : length fixed ≤ 4 + length c.controls + length (segments c)
  fixed_few =
      omega (
        arith,
        length-append others (absolutes_from 0 (segments c)),
        free.few,
        absolutes_few 0 (segments c),
      )

-- no two fixed extents share a cell
refuses_met : (earlier : List Numbered) (e : Numbered) (found : Option ℕ) → first_met earlier e ≡ found
    → shared_at earlier e found ≡ None → first_met earlier e ≡ None
refuses_met earlier e None is h = is
refuses_met earlier e (Some index) is h =
    let at = position-Some (λ (q : Numbered). share (extent_at q.placed) (extent_at e.placed)) earlier index e is in
    absurd (cc (rw (slice_get-get_or earlier index e at.0) at h))

fixed_apart : (g : GraphParts) (rest earlier : List Numbered) → Pairs (KeepApart g) earlier
    → shared_after earlier rest ≡ None → Pairs (KeepApart g) (earlier ++ rest)
fixed_apart g [] earlier apart h = rw append-nil apart
fixed_apart g (e ∷ more) earlier apart h =
    let rules = none_of_both (shared_at earlier e (first_met earlier e)) (shared_after (earlier ++ e ∷ []) more) h in
    let none = refuses_met earlier e (first_met earlier e) refl rules.0 in
    let meets : Numbered → Bool = λ q. share (extent_at q.placed) (extent_at e.placed) in
    rw append_assoc at (fixed_apart g more (earlier ++ e ∷ []) (pairs_push (KeepApart g) earlier e apart
    (every_weaker _ (λ q. KeepApart g q e) earlier
    (λ q fails. record { none = λ _ meet. absurd (cc (fails, (share_tells _ (extent_at e.placed)).1 meet)) })
    (all_fail meets earlier (none_found meets earlier none)))) rules.1)

pub fixed_pairs : (c : Program) → shared_extents (fixed c) ≡ None → Pairs (KeepApart c.g) (fixed c)
fixed_pairs c shares = fixed_apart c.g (fixed c) [] tt shares

-- What was placed: each joined segment once, and extents in conflict apart.

-- what was placed is the whole program
pub record IsWhole (g : GraphParts) (segments : List JoinedSegment) (located : List Numbered) : Type 0 where
  pub spots : Every (IsSpot g segments) located
  pub apart : Pairs (KeepApart g) located
  pub once : (m : ℕ) → m < length segments → total (extent_count m) located ≡ 1
  pub few : length located < 65536

pub unless_none : {V : Type 0} (rule : Option Refusal) (after : Result V Refusal) (v : V) → unless rule after ≡ Ok v
    → (rule ≡ None) × (after ≡ Ok v)
unless_none None after v h = (refl, h)
unless_none (Some refusal) after v h = absurd (cc h)

ranked_few : (g : GraphParts) (controls : List (ℕ × Control)) (number : ℕ) (rest : List JoinedSegment)
    → length (ranked_from g controls number rest) ≤ length rest
ranked_few g controls number [] = omega arith
ranked_few g controls number (j ∷ more) = grind (arith, ranked_few g controls (number + 1) more)

-- what is placed for valid modules over their graph is their whole program
pub placed_whole : (modules : List ModuleParts) (controls : List (ℕ × Control)) (g : GraphParts)
    (located : List Numbered) → graph_of modules controls ≡ Ok g → All IsValid modules → AreResolved modules
    → AreKept controls → located_of modules controls g ≡ Ok located → IsWhole g (segments_of modules) located
placed_whole modules controls g located is valid resolved kept h =
    let c : Program = program modules controls g valid kept is in
    let rules = unless_none (shared_extents (fixed c)) (place_after g (fixed c) (order c)) located h in
    let after = are_after g (order c) (fixed c) located (fixed_pairs c rules.0) rules.1 in
    let moved = length_permutation (ranked_from g controls 0 (segments c)) (order c)
    (order_moves g controls (segments c)) in
    let few : length (segments c) ≤ 2000 = resolved.few_segments in
    record {
      spots = rw after.are (every_append (IsSpot g (segments c)) (fixed c) _ (fixed_spots c) (later_every after _ _
          (λ t base room r. placed_spot c t base r room.low room.fits) (ranked c)));
      apart = after.apart;
      once = λ m below.
          omega (
            arith,
            later_total after (extent_count m) (ranked_count m) (λ _ _. refl),
            fixed_count c m,
            once g controls (segments c) m below,
          );
      few =
          omega (
            arith,
            ap (λ (es : List Numbered). length es) after.are,
            length-append (fixed c) (map at_base after.picks),
            length-map after.picks at_base,
            length-map after.picks (λ (p : Ranked × ℕ). p.0),
            ap (λ (ts : List Ranked). length ts) after.order_is,
            fixed_few c,
            moved,
            ranked_few g controls 0 (segments c),
            kept.few,
            few,
          );
    }

-- extents with the number of a joined segment, and how many there are
one_counted : (m : ℕ) (es : List Numbered) (k : ℕ) (e : Numbered) → slice_get es k ≡ Some e → e.number ≡ Some m
    → 1 ≤ total (extent_count m) es
one_counted m [] k e h number = absurd (cc h)
one_counted m (x ∷ es) zero e h number =
    let same : x ≡ e = cc h in rw (same, number, eq-eqb m m refl) (omega arith)
one_counted m (x ∷ es) (suc k) e h number = omega (arith, one_counted m es k e h number)

pub record IsFound (located : List Numbered) (m : ℕ) : Type 0 where
  pub e : Numbered
  pub at : slice_get located (joined_index located m) ≡ Some e
  pub first : find (is_number m) located ≡ Some e
  pub number : e.number ≡ Some m

find_place : (located : List Numbered) (m : ℕ) (found : Option ℕ) → position (is_number m) located ≡ found
    → total (extent_count m) located ≡ 1 → IsFound located m
unfolding joined_index
find_place located m None is h =
    let end : length located ≡ position_or_len (is_number m) located = rw is at (place_is (is_number m) located) in
    let none = total_none (extent_count m) located (every_of _ located (λ e there.
    let c = contains_in located e there in
    ap one_if (ap (is_number m) (sym c.2)
    ∙ fails_before_first (is_number m) located c.0 e (omega (arith, c.1, end))))) in
    absurd (omega (arith, h, none))
find_place located m (Some index) is h =
    let d : Numbered = record {
      placed = record { title = []; kind = Number; reloc = Abs; mark = Plain; base = 0; size = 0 };
      number = None;
    } in
    let at = position-Some (is_number m) located index d is in
    let there = slice_get-get_or located index d at.0 in
    let first : index ≡ position_or_len (is_number m) located = rw is at (place_is (is_number m) located) in
    record {
      e = get_or located index d;
      at = rw is there;
      first = find_at (is_number m) located ∙ rw (← first) there;
      number = let is = at.1 in grind (arith, nat_tests, is);
    }

pub found : (g : GraphParts) (js : List JoinedSegment) (located : List Numbered) → IsWhole g js located
    → (m : ℕ) → m < length js → IsFound located m
found g js located h m below = find_place located m (position (is_number m) located) refl (h.once m below)

pub only : (m : ℕ) (es : List Numbered) (i j : ℕ) (e f : Numbered) → total (extent_count m) es ≤ 1
    → slice_get es i ≡ Some e → slice_get es j ≡ Some f → e.number ≡ Some m → f.number ≡ Some m → i ≡ j
only m [] i j e f once h k p q = absurd (cc h)
only m (x ∷ es) zero zero e f once h k p q = refl
only m (x ∷ es) zero (suc j) e f once h k p q =
    absurd (omega (arith, once, one_counted m (x ∷ []) 0 e h p, one_counted m es j f k q))
only m (x ∷ es) (suc i) zero e f once h k p q =
    absurd (omega (arith, once, one_counted m (x ∷ []) 0 f k q, one_counted m es i e h p))
only m (x ∷ es) (suc i) (suc j) e f once h k p q = omega (arith, only m es i j e f (omega (arith, once)) h k p q)

-- each is numbered as the graph's owners are
pub numbered : {js : List JoinedSegment} {controls : List (ℕ × Control)} {g : GraphParts} (es : List Numbered)
    → IsOf js controls g → Every (IsSpot g js) es → All (IsNumbered g) es
numbered es is spots = every_all _ es (every_weaker _ (IsNumbered _) es (λ e spot. record {
  inside = λ n at. let of = spot.numbered n at in
      omega (arith, slice_get_within _ n of.j of.is, as_many_own _ _ _ is);
}) spots)
