-- Segments of overlaid DATA as bytes: those of related units have together no more than they cover.
use Rattle.m51_place.proofs
use proofs.Common.{Bool, SecondUnderNone, false_from_ne_true, get_or_from_slice_get, is_overlaid_data, slice_get_within}
use proofs.Common.{FirstUnderNone, IsHeaviestWalk, LayoutParts, ProgramGraph, layout_graph, option_map_or, weight_along}
use proofs.Common.{AreRelated, ChainsFrom, cases_Bool, false≢true, list_any_at, number_got, reach_edge, with_numbers, ℕ}
use proofs.Common.{LiesUnder, at_number, extent_at, extent_of, nat_tests, owners_of, pairs_got, reach_from, slice_get}
use proofs.Common.{Contains, IsInside, Overlaid, UnderTwo, eqb-true, list_any, or_cases, sum_along, tally_le, weight_of}
use proofs.Common.{Before, Covers, Decides, Direct, IsSound, IsWalk, Option, Owners, Reaches, data_of, sum-map, vectors}
use proofs.Common.{After, Chain, Edges, Kind, Pairs, Placed, Reloc, arith, false, nat_eq, nat_le, nat_lt, subst, sum_by}
use proofs.Common.{List, Mark, None, Ram, Same, Some, cond, inl, inr, map, refl, tally, true, zero, ◌&&◌, ◌++◌, ◌||◌}
use proofs.Common.{In, [], ap, min, not, suc, sym, ◌*◌, ◌+◌, ◌-◌, ◌<◌, ◌∙◌, ◌∷◌, ◌≡◌, ◌≤◌}
use Rattle.m51_cells.proofs.Members.{every_both, every_weaker, pairs_weaker, total-append, total_swap, total_zero}
use Rattle.m51_cells.proofs.Members.{any_in, every_map, every_of, in_cases, pairs_map, total_add, total_le, total_sum}
use Rattle.m51_cells.proofs.Members.{Every, total}
use Rattle.m51_cells.specs.Cells.{cells_in}
use Rattle.m51_place.specs.Bound.{WeightIsLeast, bytes_passing, count_below, covers_byte}

-- Segments that share no byte have together no more bytes than they cover.

-- the byte lies from the base on, before its end
abbrev pub has_byte : ℕ → ℕ → ℕ → Bool
has_byte base size byte = nat_le base byte && nat_lt byte (base + size)

pub has_byte_tells : (base size byte : ℕ) → Decides (has_byte base size byte) ((base ≤ byte) × (byte < base + size))
has_byte_tells base size byte = (λ h. grind (arith, nat_tests), λ h. grind (arith, nat_tests))

-- how many of the bytes below n there are
pub tally_range : (base size n : ℕ) → tally (has_byte base size) n ≡ min n (base + size) - min n base
tally_range base size zero = omega arith
tally_range base size (suc n) = grind (arith, nat_tests, tally_range base size n)

-- what is left of a test without the bytes of one
without : (ℕ → Bool) → ℕ → ℕ → ℕ → Bool
without hit base size byte = hit byte && not (has_byte base size byte)

parted : (hit : ℕ → Bool) (base size n : ℕ) → ((byte : ℕ) → has_byte base size byte ≡ true → hit byte ≡ true)
    → tally (without hit base size) n + tally (has_byte base size) n ≡ tally hit n
unfolding without
parted hit base size zero h = refl
parted hit base size (suc n) h = grind (arith, parted hit base size n h, h n)

taken : (hit : ℕ → Bool) (base size n : ℕ) → (0 < size → base + size ≤ n)
    → ((byte : ℕ) → has_byte base size byte ≡ true → hit byte ≡ true)
    → tally (without hit base size) n + size ≡ tally hit n
taken hit base size n ends h = grind (arith, parted hit base size n h, tally_range base size n, ends)

joined : (size rest left all : ℕ) → rest ≤ left → left + size ≡ all → size + rest ≤ all
joined size rest left all h k = omega arith

module _ {X : Type 0} (base size : X → ℕ) where
  abbrev pub has : X → ℕ → Bool
  has x byte = has_byte (base x) (size x) byte

  -- it ends in internal RAM, and its bytes pass the test
  pub record Lies (hit : ℕ → Bool) (x : X) : Type 0 where
    pub ends : 0 < size x → base x + size x ≤ 256
    pub hits : (byte : ℕ) → has x byte ≡ true → hit byte ≡ true

  pub record AreDisjoint (x y : X) : Type 0 where
    pub none : (byte : ℕ) → has x byte ≡ true → has y byte ≡ true → ⊥

  lies_without : (hit : ℕ → Bool) (x y : X) → Lies hit y → AreDisjoint x y → Lies (without hit (base x) (size x)) y
  unfolding without
  lies_without hit x y lies apart = record {
    ends = lies.ends;
    hits = λ byte h. elim (cases_Bool (has x byte)) [
      | inl is ↦ absurd (apart.none byte is h)
      | inr not_is ↦ rw (lies.hits byte h, not_is)
    ];
  }

  pub packed : (hit : ℕ → Bool) (xs : List X) → Every (Lies hit) xs → Pairs AreDisjoint xs → total size xs ≤ tally hit
      256
  packed hit [] lie apart = omega arith
  packed hit (x ∷ xs) lie apart =
      joined (size x) (total size xs) _ _
      (packed (without hit (base x) (size x)) xs
      (every_both (Lies hit) (AreDisjoint x) (Lies (without hit (base x) (size x))) xs (lies_without hit x) lie.1
      apart.0) apart.1) (taken hit (base x) (size x) 256 lie.0.ends lie.0.hits)

-- Segments of overlaid DATA with their own units, and the bytes of units of which each two are related.

pub data_kind : (kind : Kind) (reloc : Reloc) (mark : Mark) → is_overlaid_data kind reloc mark ≡ true → (kind ≡ Direct)
    × (mark ≡ Overlaid)
data_kind kind reloc mark h = grind arith

abbrev pub is_data : Placed → Bool
is_data p = is_overlaid_data p.kind p.reloc p.mark

-- Walks: each two units of one are related, and none occurs twice.

pub reach_in : (edges : Edges) (u : ℕ) (more : List ℕ) (w : ℕ) → IsWalk edges u more → In w more → Reaches edges u w
reach_in edges u [] w walk h = absurd h
reach_in edges u (v ∷ more) w walk (inl e) = rw (← e) (reach_edge edges u v walk.0)
reach_in edges u (v ∷ more) w walk (inr h) = reach_from edges u v w walk.0 (reach_in edges v more w walk.1 h)

-- a unit occurs at most once
abbrev pub Once : ℕ → List ℕ → Type 0
Once o [] = Unit {0}
Once o (u ∷ us) = (u ≡ o → In o us → ⊥) × Once o us

module _ (p : ProgramGraph) where
  pub walk_related : (u : ℕ) (more : List ℕ) (a b : ℕ) → IsWalk p.edges u more → In a (u ∷ more) → In b (u ∷ more)
      → AreRelated p a b
  walk_related u more a b walk (inl h) (inl k) = Same (sym h ∙ k)
  walk_related u more a b walk (inl h) (inr k) = Before (rw (← h) (reach_in p.edges u more b walk k))
  walk_related u more a b walk (inr h) (inl k) = After (rw (← k) (reach_in p.edges u more a walk h))
  walk_related u [] a b walk (inr h) (inr k) = absurd h
  walk_related u (v ∷ more) a b walk (inr h) (inr k) = walk_related v more a b walk.1 h k

  pub walk_once : ((u : ℕ) → Reaches p.edges u u → ⊥) → (u : ℕ) (more : List ℕ) (o : ℕ) → IsWalk p.edges u more
      → Once o (u ∷ more)
  walk_once no_cycle u [] o walk = (λ e h. h, tt)
  walk_once no_cycle u (v ∷ more) o walk = (
    λ e h. no_cycle u
        (subst (λ x. Reaches p.edges u x) (sym e) (reach_in p.edges u (v ∷ more) o walk h)),
    walk_once no_cycle v more o walk.1,
  )

-- A segment as bytes: none, unless it is overlaid DATA.
pub record Local : Type 0 where
  pub base : ℕ
  pub size : ℕ
  pub own : Option ℕ

abbrev pub passes : (ℕ → Bool) → Local → Bool
passes test x = option_map_or test x.own false

-- its bytes, where its own unit passes a test
abbrev pub bytes : (ℕ → Bool) → Local → ℕ
bytes test x = cond (passes test x) x.size 0

-- it ends in internal RAM, and its own unit lies under at most one root
pub record IsLocal (p : ProgramGraph) (x : Local) : Type 0 where
  pub ends : (u : ℕ) → x.own ≡ Some u → 0 < x.size → x.base + x.size ≤ 256
  pub one_root : (u a b : ℕ) → x.own ≡ Some u → LiesUnder p a u → LiesUnder p b u → a ≡ b

-- where their own units are related they share no byte
pub record KeptApart (p : ProgramGraph) (x y : Local) : Type 0 where
  pub none : (a b byte : ℕ) → x.own ≡ Some a → y.own ≡ Some b → AreRelated p a b
      → has_byte x.base x.size byte ≡ true → has_byte y.base y.size byte ≡ true → ⊥

pub record AreLocals (p : ProgramGraph) (xs : List Local) : Type 0 where
  pub each : Every (IsLocal p) xs
  pub apart : Pairs (KeptApart p) xs

-- the bytes of a unit that occurs at most once
once_bytes : (size o : ℕ) (us : List ℕ) → Once o us
    → total (λ u. cond (nat_eq u o) size 0) us ≤ cond (list_any (λ u. nat_eq u o) us) size 0
once_bytes size o [] once = omega arith
once_bytes size o (u ∷ us) once =
    let new : nat_eq u o ≡ true → list_any (λ v. nat_eq v o) us ≡ true → ⊥ =
    λ same there. once.0 (eqb-true u o same) (any_in o us there) in
    grind (arith, once_bytes size o us once.1, new)

pub passing : (test : ℕ → Bool) (own : Option ℕ) → option_map_or test own false ≡ true → (u : ℕ) × (own ≡ Some u)
    × (test u ≡ true)
passing test None h = absurd (false≢true h)
passing test (Some u) h = (u, refl, h)

-- Units that occur once, and others that are free: what they own is at most what it covers.
module _ (p : ProgramGraph) (xs : List Local) (are : AreLocals p xs) (units : List ℕ) (free : ℕ → Bool) where
  abbrev chosen : ℕ → Bool
  chosen o = list_any (λ u. nat_eq u o) units || free o

  pub record IsCounted (x : Local) : Type 0 where
    pub once : (o : ℕ) → x.own ≡ Some o → Once o units
    pub bound : (o : ℕ) → x.own ≡ Some o → In o units → free o ≡ false

  counted : (x : Local) (own : Option ℕ) → x.own ≡ own → IsCounted x
      → total (λ u. cond (option_map_or (nat_eq u) own false) x.size 0) units
      + cond (option_map_or free own false) x.size 0 ≤ cond (option_map_or chosen own false) x.size 0
  counted x None is h = omega (arith, total_zero units)
  counted x (Some o) is h =
      let listed : list_any (λ u. nat_eq u o) units ≡ true → free o ≡ false =
      λ there. h.bound o is (any_in o units there) in
      grind (arith, once_bytes x.size o units (h.once o is), listed)

  module _ (hit : ℕ → Bool) (each : Every IsCounted xs)
      (related : (a b : ℕ) → chosen a ≡ true → chosen b ≡ true → AreRelated p a b)
      (met : Every (λ x. (byte o : ℕ) → x.own ≡ Some o → chosen o ≡ true → has_byte x.base x.size byte ≡ true
      → hit byte ≡ true) xs) where
    abbrev size : Local → ℕ
    size x = bytes chosen x

    some_byte : (x : Local) (byte : ℕ) → has_byte x.base (size x) byte ≡ true → (o : ℕ) × (x.own ≡ Some o)
        × (chosen o ≡ true) × (has_byte x.base x.size byte ≡ true)
    some_byte x byte h = elim (cases_Bool (passes chosen x)) [
      | inl is ↦ let own = passing chosen x.own is in (own.0, own.1, own.2, rw is at h)
      | inr not_is ↦
          let inside = (has_byte_tells x.base 0 byte).0 (rw not_is at h) in
          absurd (omega (arith, inside))
    ]

    pub bound : total (λ u. total (bytes (nat_eq u)) xs) units + total (bytes free) xs ≤ tally hit 256
    bound =
        let most =
        total_le (λ x. total (λ u. bytes (nat_eq u) x) units + bytes free x) size xs
        (every_weaker IsCounted _ xs (λ x h. counted x x.own refl h) each) in
        let fit = packed (λ (x : Local). x.base) size hit xs
        (every_both (IsLocal p) _ _ xs
        (λ x local meets. record {
          ends = λ some. elim (cases_Bool (passes chosen x)) [
            | inl is ↦ rw is (local.ends _ (passing chosen x.own is).1 (rw is at some))
            | inr not_is ↦ rw not_is (absurd (omega (arith, rw not_is at some)))
          ];
          hits = λ byte h. let own = some_byte x byte h in meets byte own.0 own.1 own.2 own.3;
        }) are.each met)
        (pairs_weaker (KeptApart p) _ xs
        (λ x y apart. record {
          none = λ byte h k.
              let a = some_byte x byte h in
              let b = some_byte y byte k in
              apart.none a.0 b.0 byte a.1 b.1 (related a.0 b.0 a.2 b.2) a.3 b.3;
        }) are.apart) in
        omega (
          arith,
          total_swap (λ u. bytes (nat_eq u)) units xs,
          total_add (λ x. total (λ u. bytes (nat_eq u) x) units) (bytes free) xs,
          most,
          fit,
        )

-- the weight along units
pub along_total : (w : ℕ → ℕ) (us : List ℕ) → sum_along w us ≡ total w us
along_total w us = sum-map w us ∙ sym (total_sum w us)

-- The segments of a layout.
abbrev pub first_of_list : List ℕ → Option ℕ
first_of_list [] = None
first_of_list (own ∷ others) = Some own

abbrev pub local_of : Placed → List ℕ → Local
local_of p owners = record { base = p.base; size = cond (is_data p) p.size 0; own = first_of_list owners }

abbrev pub local_at : LayoutParts → ℕ × Placed → Local
local_at l p = local_of p.1 (owners_of l.owners p.0)

abbrev pub locals : LayoutParts → ℕ → List Placed → List Local
locals l number rest = map (local_at l) (with_numbers number rest)

pub passing_is : (l : LayoutParts) (test : ℕ → Bool) (number : ℕ) (rest : List Placed)
    → bytes_passing l test number rest ≡ total (bytes test) (locals l number rest)
passing_is l test number [] = refl
passing_is l test number (p ∷ more) =
    grind (arith, passing_is l test (number + 1) more)

pub weight_is : (l : LayoutParts) (unit number : ℕ) (rest : List Placed)
    → data_of l unit number rest ≡ bytes_passing l (nat_eq unit) number rest
weight_is l unit number [] = refl
weight_is l unit number (p ∷ more) = grind (arith, weight_is l unit (number + 1) more)

own_first : (us : List ℕ) (o : ℕ) → first_of_list us ≡ Some o → Contains us o
own_first [] o h = absurd (cc h)
own_first (u ∷ us) o h = (0, omega arith, cc h)

-- a byte of overlaid DATA is one of its cells
pub data_byte : (p : Placed) (byte : ℕ) → has_byte p.base (cond (is_data p) p.size 0) byte ≡ true
    → (is_data p ≡ true) × (p.kind ≡ Direct) × (p.base ≤ byte) × (byte < p.base + p.size)
    × Covers (extent_at p) (record { space = Ram; at = 8 * byte })
data_byte p byte h = elim (cases_Bool (is_data p)) [
  | inl is ↦
      let inside = (has_byte_tells p.base p.size byte).0 (rw is at h) in
      let kind = (data_kind p.kind p.reloc p.mark is).0 in (
        is,
        kind,
        inside.0,
        inside.1,
        rw kind (record { space = refl; from = omega (arith, inside.0); below = omega (arith, inside.1) }),
      )
  | inr not_is ↦ let inside = (has_byte_tells p.base 0 byte).0 (rw not_is at h) in absurd (omega (arith, inside))
]

pub data_ends : (p : Placed) → IsInside (extent_at p) → 0 < cond (is_data p) p.size 0
    → p.base + cond (is_data p) p.size 0 ≤ 256
data_ends p inside some =
    let size : ℕ = cond (is_data p) p.size 0 in
    let last = data_byte p (p.base + size - 1)
    ((has_byte_tells p.base size (p.base + size - 1)).1 (omega (arith, some), omega (arith, some))) in
    let below : 8 * (p.base + size - 1) < 2048 =
    subst (λ k. 8 * (p.base + size - 1) < cells_in (extent_of k p.base p.size).space) last.1 (inside _ last.4) in
    omega (arith, below, some)

pub sound_locals : (l : LayoutParts) → IsSound l → AreLocals (layout_graph l) (locals l 0 l.placed)
sound_locals l sound = record {
  each = every_map (local_at l) _ _ (every_of _ (with_numbers 0 l.placed) (λ p i.
      let at = at_number l.placed p i in
      record {
        ends = λ u own. data_ends p.1 (sound.fit p.0 p.1 at).inside;
        one_root = λ u a b own. sound.one_root p.0 u a b (own_first (owners_of l.owners p.0) u own);
      }));
  apart = pairs_map (local_at l) _ _ (pairs_got _ (with_numbers 0 l.placed) (λ i j p q less h k.
      let at = number_got l.placed i p h in
      let at' = number_got l.placed j q k in
      record {
        none = λ a b byte own own' related has has'.
            sound.apart i j p.1 q.1 at.1 at'.1 (λ e. omega (arith, less, e))
            (Owners a b (rw at.0 at (own_first (owners_of l.owners p.0) a own))
            (rw at'.0 at (own_first (owners_of l.owners q.0) b own')) related)
            (_, (data_byte p.1 byte has).4, (data_byte q.1 byte has').4);
      }));
}

pub walk_bound : (l : LayoutParts) (sound : IsSound l) (u : ℕ) (more : List ℕ) → IsWalk l.edges u more
    → weight_along l (u ∷ more) ≤ 256
walk_bound l sound u more walk =
    let xs : List Local = locals l 0 l.placed in
    let p : ProgramGraph = layout_graph l in
    let off : ℕ → Bool = λ o. false in
    let all =
    bound p xs (sound_locals l sound) (u ∷ more) off (λ byte. true)
    (every_weaker (IsLocal p) _ xs
    (λ x h. record {
      once = λ o own. walk_once p sound.no_cycle u more o walk;
      bound = λ o own here. refl;
    }) (sound_locals l sound).each)
    (λ a b h k. walk_related p u more a b walk (any_in a (u ∷ more) (grind (arith, h)))
    (any_in b (u ∷ more) (grind (arith, k))))
    (every_weaker (IsLocal p) _ xs (λ x h byte o own is has. refl) (sound_locals l sound).each) in
    omega (arith, all, along_total (weight_of l) (u ∷ more), same_totals, tally_le (λ byte. true) 256)
  where
    same_totals : total (weight_of l) (u ∷ more)
        ≡ total (λ v. total (bytes (nat_eq v)) (locals l 0 l.placed)) (u ∷ more)
    same_totals = ap (λ (w : ℕ → ℕ). total w (u ∷ more))
        (λ i v. (weight_is l v 0 l.placed ∙ passing_is l (nat_eq v) 0 l.placed) i)

-- No sound layout covers fewer bytes by overlaid DATA than its weight.

-- a list of different numbers
abbrev Distinct : List ℕ → Type 0
Distinct [] = Unit {0}
Distinct (v ∷ more) = (In v more → ⊥) × Distinct more

vectors_distinct : Distinct vectors
vectors_distinct = (
  λ h. grind arith,
  (λ h. grind arith, (λ h. grind arith, (λ h. grind arith, (λ h. grind arith, (λ h. grind arith, (λ h. h, tt)))))),
)

once_append : (o : ℕ) (us vs : List ℕ) → Once o us → Once o vs → (In o us → In o vs → ⊥) → Once o (us ++ vs)
once_append o [] vs h k apart = k
once_append o (u ∷ us) vs h k apart = (
  λ e i. elim (in_cases us vs o i) [ inl here ↦ h.0 e here | inr there ↦ apart (inl e) there ],
  once_append o us vs h.1 k (λ i. apart (inr i)),
)

-- the units of all chains
abbrev pub all_units : List Chain → List ℕ
all_units [] = []
all_units (c ∷ more) = c.units ++ all_units more

module _ (p : ProgramGraph) (no_cycle : (u : ℕ) → Reaches p.edges u u → ⊥) (w : ℕ → ℕ) where
  -- the unit lies under a root at one of the vectors
  pub record IsUnder (vs : List ℕ) (a : ℕ) : Type 0 where
    pub vector : ℕ
    pub among : In vector vs
    pub under : LiesUnder p vector a

  -- what holds of the units of the chains of these vectors
  pub record AreChained (vs us : List ℕ) (sum : ℕ) : Type 0 where
    pub under : (a : ℕ) → In a us → IsUnder vs a
    pub related : (a b : ℕ) → In a us → In b us → AreRelated p a b
    pub once : (o : ℕ) → ((a b : ℕ) → LiesUnder p a o → LiesUnder p b o → a ≡ b) → Once o us
    pub weigh : sum ≡ total w us

  later : (v : ℕ) (vs : List ℕ) (a : ℕ) → IsUnder vs a → IsUnder (v ∷ vs) a
  later v vs a h = record { vector = h.vector; among = inr h.among; under = h.under }

  skipped : (v : ℕ) (vs us : List ℕ) (sum : ℕ) → AreChained vs us sum → AreChained (v ∷ vs) us sum
  skipped v vs us sum h = record {
    under = λ a i. later v vs a (h.under a i);
    related = h.related;
    once = h.once;
    weigh = h.weigh;
  }

  chained : (v : ℕ) (vs us : List ℕ) (sum : ℕ) (c : Chain) → (In v vs → ⊥) → p.IsRoot v c.root
      → IsHeaviestWalk p.edges w c → AreChained vs us sum → AreChained (v ∷ vs) (c.units ++ us) (c.bytes + sum)
  chained v vs us sum c new root heavy h =
      let walk : List ℕ = c.root ∷ heavy.more in
      let here : (a : ℕ) → In a walk → LiesUnder p v a = λ a i. record {
        root = c.root;
        is_root = root;
        leads = elim i [ inl e ↦ inl e | inr after ↦ inr (reach_in p.edges c.root heavy.more a heavy.walk after) ];
      } in
      rw heavy.units (record {
        under = λ a i. elim (in_cases walk us a i) [
          | inl l ↦ record { vector = v; among = inl refl; under = here a l }
          | inr r ↦ later v vs a (h.under a r)
        ];
        related = λ a b i j. elim (in_cases walk us a i) [
          | inl l ↦ elim (in_cases walk us b j) [
            | inl m ↦ walk_related p c.root heavy.more a b heavy.walk l m
            | inr m ↦ let k = h.under b m in
                UnderTwo v k.vector (λ e. new (rw e k.among)) (here a l) k.under
          ]
          | inr l ↦ elim (in_cases walk us b j) [
            | inl m ↦ let k = h.under a l in UnderTwo k.vector v (λ e. new (rw (← e) k.among)) k.under (here b m)
            | inr m ↦ h.related a b l m
          ]
        ];
        once = λ o one. once_append o walk us (walk_once p no_cycle c.root heavy.more o heavy.walk) (h.once o one)
            (λ i j. let k = h.under o j in new (rw (one v k.vector (here o i) k.under) k.among));
        weigh = omega (arith, heavy.bytes, along_total w walk, h.weigh, total-append w walk us);
      })

  all_chained : (vs : List ℕ) (chains : List Chain) → Distinct vs → ChainsFrom p w vs chains
      → AreChained vs (all_units chains) (total (λ (c : Chain). c.bytes) chains)
  all_chained [] [] d h =
      record { under = λ a i. absurd i; related = λ a b i. absurd i; once = λ o one. tt; weigh = refl }
  all_chained [] (c ∷ chains) d h = absurd h
  all_chained (v ∷ vs) [] d h = skipped v vs [] 0 (all_chained vs [] d.1 h.1)
  all_chained (v ∷ vs) (c ∷ chains) d (inl h) =
      skipped v vs (all_units (c ∷ chains)) (total (λ (x : Chain). x.bytes) (c ∷ chains))
      (all_chained vs (c ∷ chains) d.1 h.1)
  all_chained (v ∷ vs) (c ∷ chains) d (inr h) =
      chained v vs (all_units chains) (total (λ (x : Chain). x.bytes) chains) c d.0 h.0 h.1
      (all_chained vs chains d.1 h.2)

-- the segments of the chains, and those whose unit lies under no root, have no more bytes than they meet
pub weight_bound : (p : ProgramGraph) (xs : List Local) (w : ℕ → ℕ) (chains : List Chain) (free : ℕ → Bool)
    (hit : ℕ → Bool) → AreLocals p xs → ((u : ℕ) → Reaches p.edges u u → ⊥)
    → ((u : ℕ) → w u ≡ total (bytes (nat_eq u)) xs) → ChainsFrom p w vectors chains
    → ((unit : ℕ) → free unit ≡ true → (vector : ℕ) → LiesUnder p vector unit → ⊥)
    → Every (λ x. (byte o : ℕ) → x.own ≡ Some o → has_byte x.base x.size byte ≡ true → hit byte ≡ true) xs
    → sum_by (λ (c : Chain). c.bytes) chains + total (bytes free) xs ≤ tally hit 256
weight_bound p xs w chains free hit are no_cycle weighs heaviest from_free met =
    let us : List ℕ = all_units chains in
    let all = all_chained p no_cycle w vectors chains vectors_distinct heaviest in
    let same : total w us ≡ total (λ u. total (bytes (nat_eq u)) xs) us =
    ap (λ (f : ℕ → ℕ). total f us) (λ i u. weighs u i) in
    let most = bound p xs are us free hit
    (every_weaker (IsLocal p) _ xs (λ x local. record {
      once = λ o own. all.once o (λ a b. local.one_root o a b own);
      bound = λ o own i. let k = all.under o i in
          false_from_ne_true (free o) (λ is_free. from_free o is_free k.vector k.under);
    }) are.each)
    (λ a b h k. elim (or_cases (list_any (λ u. nat_eq u a) us) (free a) h) [
      | inr none ↦ FirstUnderNone (from_free a none)
      | inl l ↦ elim (or_cases (list_any (λ u. nat_eq u b) us) (free b) k) [
        | inr none ↦ SecondUnderNone (from_free b none)
        | inl m ↦ all.related a b (any_in a us l) (any_in b us m)
      ]
    ])
    (every_weaker _ _ xs (λ x h byte o own is. h byte o own) met) in
    omega (arith, most, all.weigh, same, total_sum (λ (c : Chain). c.bytes) chains)

pub count_is : (p : ℕ → Bool) (n : ℕ) → tally p n ≡ count_below p n
unfolding count_below
count_is p zero = refl
count_is p (suc n) = grind (arith, count_is p n)

met : (l : LayoutParts) (byte n : ℕ) (e : Placed) → slice_get l.placed n ≡ Some e
    → has_byte e.base (cond (is_data e) e.size 0) byte ≡ true → list_any (covers_byte byte) l.placed ≡ true
met l byte n e at h =
    let of = data_byte e byte h in
    let has : has_byte e.base e.size byte ≡ true = rw of.0 at h in
    list_any_at (covers_byte byte) l.placed n e (slice_get_within l.placed n e at)
    (rw (get_or_from_slice_get l.placed n e e at, of.0, has))

least_join : (weight chains passing free met covered : ℕ) → weight ≡ chains + passing → passing ≡ free
    → chains + free ≤ met → met ≡ covered → weight ≤ covered
least_join weight chains passing free met covered a b c d = omega (arith, a, b, c, d)

pub least : WeightIsLeast
least l weight sound h =
    let xs : List Local = locals l 0 l.placed in
    let hit : ℕ → Bool = λ byte. list_any (covers_byte byte) l.placed in
    let most =
    weight_bound (layout_graph l) xs (weight_of l) h.chains h.free hit (sound_locals l sound) sound.no_cycle
    (λ u. weight_is l u 0 l.placed ∙ passing_is l (nat_eq u) 0 l.placed) h.heaviest
    (λ unit is_free. (h.tells unit).0 is_free)
    (every_map (local_at l) _ _ (every_of _ (with_numbers 0 l.placed)
    (λ p i byte o own has. met l byte p.0 p.1 (at_number l.placed p i) has))) in
    least_join _ _ _ _ _ _ h.is (passing_is l h.free 0 l.placed) most (count_is hit 256)
