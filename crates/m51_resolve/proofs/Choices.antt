-- The choice as a relation has one outcome.
-- The earliest supplier of a missing name is the first member that is needed.
-- The members that are left are all members but those that the chosen modules leave nothing to define.
-- The choice may stop where more modules are chosen than a link takes: the answer is known.
use Rattle.m51_resolve.proofs
use proofs.Common.{◌≡◌, ℕ, zero, suc, ◌≤◌, true, false, List, [], ◌∷◌, ◌++◌, length, refl, ap, arith, Option, Some}
use proofs.Common.{None, length-append, option_map_or, option_map, ModuleParts, choice, first_needed, is_needed, inl}
use proofs.Common.{inr, ◌+◌, ◌<◌, cond, drop, get_or, sym, ◌∙◌, is_some, or_right, list_any_at, position-Some}
use proofs.Common.{bytes_eq-Decides, list_any, nat_lt, position, bytes_eq, MOST_MODULES, defines, has_public, Public}
use proofs.Common.{wants, public_definition, IsEarliest, IsNext, IsWanted, defining_module, supplier, AreDefinitions}
use proofs.Common.{AreWanted, definition_in, Definition, list_any-append}
use Rattle.std.proofs.lemmas.Bool.{cases_Bool, cases_lt}
use Rattle.m51_cells.proofs.Members.{all_every, Every, every_all}
use Rattle.m51_resolve.specs.Choice.{Chooses, Ends, Takes, is_missing, chosen_of, ChoicesAreOne}
use Rattle.std.proofs.lemmas.Grind.{common_steps}
use Rattle.std.specs.List.{Any}
use Rattle.std.proofs.lemmas.Bool.Decides.{nat_tests}
use Rattle.std.proofs.lemmas.List.{at_drop_more}
use Rattle.std.proofs.lemmas.List.Folds.{Any-from_list_any}
use Rattle.m51_resolve.specs.WorkChoice.{lesser_number, IsNextAt}
use proofs.Alike.{not_true}
use proofs.Tables.{definition_some, module_is, Table}
use proofs.Positions.{none_found}
use Rattle.std.proofs.Math.Bool.{or-true}
use Rattle.std.specs.Prelude.{Err}
use Rattle.m51_module.specs.declared.linked.Quantity.TheVariants.{Modules}
use Rattle.m51_module.specs.declared.linked.Refusal.TheVariants.{Limit}
use Rattle.m51_resolve.specs.Rules.{resolved_or_refused}

-- these are not needed
abbrev NoneNeeded : List ModuleParts → List ModuleParts → Type 0
NoneNeeded chosen ms = Every (λ m. is_needed chosen m ≡ false) ms

-- the members around the first that is needed
record IsSplit (chosen left : List ModuleParts) (m : ModuleParts) (rest : List ModuleParts) : Type 0 where
  front : List ModuleParts
  back : List ModuleParts
  is : left ≡ front ++ m ∷ back
  rest_is : rest ≡ front ++ back
  passed : NoneNeeded chosen front
  needed : is_needed chosen m ≡ true

abbrev Splits : List ModuleParts → List ModuleParts → Option (ModuleParts × List ModuleParts) → Type 0
Splits chosen left None = NoneNeeded chosen left
Splits chosen left (Some found) = IsSplit chosen left found.0 found.1

split_later : (chosen left : List ModuleParts) (x : ModuleParts) (o : Option (ModuleParts × List ModuleParts))
    → is_needed chosen x ≡ false → Splits chosen left o
    → Splits chosen (x ∷ left) (option_map (λ found. (found.0, x ∷ found.1)) o)
split_later chosen left x None unneeded none = (unneeded, none)
split_later chosen left x (Some found) unneeded s = record {
  front = x ∷ s.front;
  back = s.back;
  is = ap (λ ms. x ∷ ms) s.is;
  rest_is = ap (λ ms. x ∷ ms) s.rest_is;
  passed = (unneeded, s.passed);
  needed = s.needed;
}

split : (chosen left : List ModuleParts) → Splits chosen left (first_needed chosen left)
split chosen [] = tt
split chosen (x ∷ left) = grind (arith, cases_Bool, split_later, split chosen left)

-- the other way round
finds : (chosen front back : List ModuleParts) (m : ModuleParts) → NoneNeeded chosen front → is_needed chosen m ≡ true
    → first_needed chosen (front ++ m ∷ back) ≡ Some (m, front ++ back)
finds chosen [] back m passed needed = rw needed
finds chosen (x ∷ front) back m passed needed = rw (passed.0, finds chosen front back m passed.1 needed)

misses : (chosen left : List ModuleParts) → NoneNeeded chosen left → first_needed chosen left ≡ None
misses chosen [] h = refl
misses chosen (x ∷ left) h = rw (h.0, misses chosen left h.1)

outcome_by : (turns : ℕ) (left chosen : List ModuleParts) (o : Option (ModuleParts × List ModuleParts))
    → Splits chosen left o → length left ≤ suc turns
    → ((left' chosen' : List ModuleParts) → length left' ≤ turns → Chooses left' chosen' (choice turns left' chosen'))
    → Chooses left chosen (option_map_or (λ next. choice turns next.1 (chosen ++ next.0 ∷ [])) o chosen)
outcome_by turns left chosen None none few more = Ends (every_all _ left none)
outcome_by turns left chosen (Some found) s few more =
    let less : length found.1 ≤ turns =
    grind (arith, length-append) in
    Takes s.front s.back found.0 s.is (every_all _ s.front s.passed) s.needed
    (grind arith)

outcome : (turns : ℕ) (left chosen : List ModuleParts) → length left ≤ turns
    → Chooses left chosen (choice turns left chosen)
outcome zero [] chosen few = Ends (every_all _ [] tt)
outcome zero (x ∷ left) chosen few = absurd (omega (arith, few))
outcome (suc turns) left chosen few =
    outcome_by turns left chosen (first_needed chosen left) (split chosen left) few (outcome turns)

only : (left chosen all : List ModuleParts) → Chooses left chosen all → (turns : ℕ) → length left ≤ turns → all
    ≡ choice turns left chosen
only left chosen all (Ends none) zero few = refl
only left chosen all (Ends none) (suc turns) few = rw (misses chosen left (all_every _ left none))
only left chosen all (Takes front back m is passed needed more) zero few = grind (arith, length-append)
only left chosen all (Takes front back m is passed needed more) (suc turns) few =
    rw (is, finds chosen front back m (all_every _ front passed) needed)
    (only (front ++ back) (chosen ++ m ∷ []) all more turns
    (grind (arith, length-append)))

-- what is chosen is the one outcome of the rule
pub one_choice : ChoicesAreOne
one_choice given members = grind (arith, outcome, only)

abbrev AtMost : Option ℕ → ℕ → Type 0
AtMost None n = ⊥
AtMost (Some m) n = m ≤ n

lesser_assoc : (a b c : Option ℕ) → lesser_number (lesser_number a b) c ≡ lesser_number a (lesser_number b c)
lesser_assoc a b c = grind arith

same_bytes : (name : List ℕ) → bytes_eq name name ≡ true
same_bytes name = (bytes_eq-Decides name name).1 refl

module _ (gives : List ℕ → Option ℕ) where
  -- the least that names give
  abbrev pub least_of : List (List ℕ) → Option ℕ
  least_of [] = None
  least_of (x ∷ names) = lesser_number (gives x) (least_of names)

  -- one more name
  pub least_more : (names : List (List ℕ)) (i : ℕ) (x : List ℕ) (o all : Option ℕ) → i < length names
      → x ≡ get_or names i x → lesser_number o (least_of (drop i names)) ≡ all
      → lesser_number (lesser_number o (gives x)) (least_of (drop (i + 1) names)) ≡ all
  least_more names i x o all below is h =
      lesser_assoc o (gives x) (least_of (drop (i + 1) names))
      ∙ ap (λ y. lesser_number o (lesser_number (gives y) (least_of (drop (i + 1) names)))) is
      ∙ sym (at_drop_more (λ names. lesser_number o (least_of names)) names i x below) ∙ h

  pub least_done : (names : List (List ℕ)) (i : ℕ) (o : Option ℕ) → length names ≤ i
      → lesser_number o (least_of (drop i names)) ≡ least_of names → o ≡ least_of names
  least_done names i o past h = grind (arith, common_steps)

  record IsGiven (names : List (List ℕ)) (least : ℕ) : Type 0 where
    name : List ℕ
    named : list_any (bytes_eq name) names ≡ true
    is : gives name ≡ Some least

  attained : (names : List (List ℕ)) (n : ℕ) → least_of names ≡ Some n → IsGiven names n
  attained [] n h = absurd (cc h)
  attained (x ∷ names) n h = grind (arith, same_bytes, attained names n, or_right, bytes_eq)

  bound : (names : List (List ℕ)) (name : List ℕ) (n : ℕ) → list_any (bytes_eq name) names ≡ true
      → gives name ≡ Some n → AtMost (least_of names) n
  bound [] name n h is = absurd (cc h)
  bound (x ∷ names) name n h is =
      let same = (bytes_eq-Decides name x).0 in grind (arith, bytes_eq, bound names name n)

  -- it is the earliest of the names that modules want
  pub earliest : (ms : List ModuleParts) (names : List (List ℕ)) → AreWanted ms names
      → IsEarliest gives (IsWanted ms) (least_of names)
  earliest ms names are = by (least_of names) refl
    where
      none : (name : List ℕ) (o : Option ℕ) → ((n : ℕ) → o ≡ Some n → ⊥) → o ≡ None
      none name None h = refl
      none name (Some n) h = absurd (h n refl)

      by : (o : Option ℕ) → least_of names ≡ o → IsEarliest gives (IsWanted ms) o
      by None is = λ name w.
          none name (gives name) (λ n g. rw is at (bound names name n (are.each name ∙ w.wanted) g))
      by (Some least) is =
          let a = attained names least is in
          record {
            name = a.name;
            named = grind arith;
            is = a.is;
            first = λ other n w g. rw is at (bound names other n (are.each other ∙ w.wanted) g);
          }

-- the same of what gives the same
pub earliest_gives : (one two : List ℕ → Option ℕ) (Named : List ℕ → Type 0) (o : Option ℕ)
    → ((name : List ℕ) → Named name → one name ≡ two name) → IsEarliest one Named o → IsEarliest two Named o
earliest_gives one two Named o same h = grind arith

-- what supplies a name, by the table of the chosen modules
pub supplied : (ms : List ModuleParts) (table : Table) (are : AreDefinitions ms table)
    (definition : List ℕ → Option Definition) (name : List ℕ) (o : Option Definition) → o ≡ definition_in table name
    → supplier ms definition name ≡ cond (is_some o) None (defining_module (definition name))
supplied ms table are definition name o is = grind (arith, definition_some)

-- a module has a missing name
pub record HasMissing (chosen : List ModuleParts) (m : ModuleParts) : Type 0 where
  pub name : List ℕ
  pub wanted : list_any (wants name) chosen ≡ true
  pub absent : defines chosen name ≡ false
  pub has : has_public name m ≡ true

module _ (chosen : List ModuleParts) where
  -- it is needed exactly if it has one
  pub missing_in : (m : ModuleParts) → is_needed chosen m ≡ true → HasMissing chosen m
  missing_in m h = by (Any-from_list_any (λ (p : Public). is_missing chosen p.name) m.publics h)
    where
      by : Any (λ (p : Public). is_missing chosen p.name ≡ true) m.publics → HasMissing chosen m
      by (k, p, below, at, missing) =
          let parts : (list_any (wants p.name) chosen ≡ true) × (defines chosen p.name ≡ false) = grind arith in
          record {
            name = p.name;
            wanted = parts.0;
            absent = parts.1;
            has = list_any_at (λ (q : Public). bytes_eq q.name p.name) m.publics k p below (rw at (same_bytes p.name));
          }

  pub needed_from : (m : ModuleParts) → HasMissing chosen m → is_needed chosen m ≡ true
  needed_from m h = by (Any-from_list_any (λ (p : Public). bytes_eq p.name h.name) m.publics h.has)
    where
      by : Any (λ (p : Public). bytes_eq p.name h.name ≡ true) m.publics → is_needed chosen m ≡ true
      by (k, p, below, at, same) =
          list_any_at (λ (q : Public). is_missing chosen q.name) m.publics k p below
          (rw (at, (bytes_eq-Decides p.name h.name).0 same, h.wanted, h.absent))

module _ (chosen members : List ModuleParts) where
  abbrev gives_of : List ℕ → Option ℕ
  gives_of = supplier chosen (public_definition members)

  -- the first member that has a name supplies it, where no chosen module defines it
  gives_is : (name : List ℕ) → gives_of name ≡ cond (defines chosen name) None (position (has_public name) members)
  gives_is name = rw (module_is members name)

  given : (name : List ℕ) (n : ℕ) → gives_of name ≡ Some n
      → (defines chosen name ≡ false) × (position (has_public name) members ≡ Some n)
  given name n h = let is = sym (gives_is name) ∙ h in grind arith

  supplies : (name : List ℕ) (k : ℕ) (d : ModuleParts) → defines chosen name ≡ false → k < length members
      → has_public name (get_or members k d) ≡ true → (n : ℕ) × (gives_of name ≡ Some n) × (n ≤ k)
  supplies name k d absent below has = by (position (has_public name) members) refl
    where
      by : (o : Option ℕ) → position (has_public name) members ≡ o → (n : ℕ) × (gives_of name ≡ Some n) × (n ≤ k)
      by None is = absurd (cc
          (none_found (has_public name) members is, list_any_at (has_public name) members k d below has))
      by (Some n) is = (
        n,
        cc (gives_is name),
        elim (cases_lt k n) [
          | inl early ↦ absurd (cc (has, (position-Some (has_public name) members n d is).2 k early))
          | inr late ↦ late
        ],
      )

  -- so the earliest supplier is the first member that is needed
  pub next_is : (o : Option ℕ) → nat_lt MOST_MODULES (length chosen) ≡ false → IsEarliest gives_of (IsWanted chosen) o
      → IsNext chosen members o
  next_is None few h = inr (λ k d below. not_true (is_needed chosen (get_or members k d)) (λ needed.
      let x = missing_in chosen (get_or members k d) needed in
      absurd (cc (h x.name (grind arith), (supplies x.name k d x.absent below x.has).1))))
  next_is (Some least) few h =
      let g = given h.name least h.is in
      let below : least < length members = grind (arith, nat_tests, g.1) in
      record {
        few = few;
        inside = below;
        needed = λ d. needed_from chosen (get_or members least d) (record {
          name = h.name;
          wanted = h.named.wanted;
          absent = g.0;
          has = (position-Some (has_public h.name) members least d g.1).1;
        });
        before = λ k d early. not_true (is_needed chosen (get_or members k d)) (λ needed.
            let x = missing_in chosen (get_or members k d) needed in
            grind (arith, supplies));
      }

-- the chosen modules define each public of the module
pub record AreDefined (chosen : List ModuleParts) (m : ModuleParts) : Type 0 where
  pub each : (name : List ℕ) → has_public name m ≡ true → defines chosen name ≡ true

pub data Skips (chosen : List ModuleParts) : List ModuleParts → List ModuleParts → Type 0 where
  Empty : Skips chosen [] []
  Stays : (m : ModuleParts) (ms left : List ModuleParts) → Skips chosen ms left → Skips chosen (m ∷ ms) (m ∷ left)
  Gone : (m : ModuleParts) (ms left : List ModuleParts) → AreDefined chosen m → Skips chosen ms left
      → Skips chosen (m ∷ ms) left

defined_not_needed : (chosen : List ModuleParts) (m : ModuleParts) → AreDefined chosen m → is_needed chosen m ≡ false
defined_not_needed chosen m h = not_true (is_needed chosen m) (grind (arith, missing_in chosen m))

-- with one more module
module _ (chosen : List ModuleParts) (x : ModuleParts) where
  more_defined : (m : ModuleParts) → AreDefined chosen m → AreDefined (chosen ++ x ∷ []) m
  more_defined m h = grind (arith, list_any-append)

  last_defined : AreDefined (chosen ++ x ∷ []) x
  last_defined = grind (arith, list_any-append, or-true, defines)

  skips_grow : (ms left : List ModuleParts) → Skips chosen ms left → Skips (chosen ++ x ∷ []) ms left
  skips_grow _ _ Empty = Empty
  skips_grow _ _ (Stays m ms left s) = Stays m ms left (skips_grow ms left s)
  skips_grow _ _ (Gone m ms left h s) = Gone m ms left (more_defined m h) (skips_grow ms left s)

skips_all : (chosen ms : List ModuleParts) → Skips chosen ms ms
skips_all chosen [] = Empty
skips_all chosen (m ∷ ms) = Stays m ms ms (skips_all chosen ms)

-- a turn takes the first member that is needed
record IsTaken (chosen ms left : List ModuleParts) (m : ModuleParts) : Type 0 where
  rest : List ModuleParts
  first : first_needed chosen left ≡ Some (m, rest)
  count : length left ≡ suc (length rest)
  skips : Skips (chosen ++ m ∷ []) ms rest

module _ (chosen : List ModuleParts) (d : ModuleParts) where
  taken : (ms left : List ModuleParts) (index : ℕ) → Skips chosen ms left → index < length ms
      → is_needed chosen (get_or ms index d) ≡ true
      → ((k : ℕ) → k < index → is_needed chosen (get_or ms k d) ≡ false) → IsTaken chosen ms left (get_or ms index d)
  taken _ _ index Empty inside needed before = grind arith
  taken _ _ zero (Stays m ms left s) inside needed before =
      grind (arith, Gone m ms left (last_defined chosen m) (skips_grow chosen m ms left s))
  taken _ _ (suc index) (Stays m ms left s) inside needed before =
      let t = taken ms left index s (omega (arith, inside)) needed (λ k low. before (suc k) (omega (arith, low))) in
      grind (arith, before 0 (omega arith), Stays m ms t.rest t.skips)
  taken _ _ zero (Gone m ms left h s) inside needed before = grind (arith, defined_not_needed)
  taken _ _ (suc index) (Gone m ms left h s) inside needed before =
      let t = taken ms left index s (omega (arith, inside)) needed (λ k low. before (suc k) (omega (arith, low))) in
      grind (arith, Gone m ms t.rest (more_defined chosen (get_or ms index d) m h) t.skips)

none_taken : (chosen ms left : List ModuleParts) → Skips chosen ms left
    → ((k : ℕ) (d : ModuleParts) → k < length ms → is_needed chosen (get_or ms k d) ≡ false)
    → first_needed chosen left ≡ None
none_taken chosen _ _ Empty none = refl
none_taken chosen _ _ (Stays m ms left s) none =
    rw (none 0 m (omega arith), none_taken chosen ms left s (λ k d low. none (suc k) d (omega (arith, low))))
none_taken chosen _ _ (Gone m ms left h s) none =
    none_taken chosen ms left s (λ k d low. none (suc k) d (omega (arith, low)))

-- what the chosen modules want, the given ones or the members want
pub record AreAsked (given members chosen : List ModuleParts) : Type 0 where
  pub each : (name : List ℕ) → IsWanted chosen name → list_any (wants name) (given ++ members) ≡ true

pub asked_start : (given members : List ModuleParts) → AreAsked given members given
asked_start given members = grind (arith, list_any-append)

pub asked_more : (given members chosen : List ModuleParts) (index : ℕ) (m : ModuleParts) → index < length members → m
    ≡ get_or members index m → AreAsked given members chosen
    → AreAsked given members (chosen ++ m ∷ [])
asked_more given members chosen index m below is h =
    grind (arith, list_any, wants, list_any-append, list_any_at, or-true)

-- the choice, as far as it has come
pub record IsChoosing (given members chosen : List ModuleParts) : Type 0 where
  pub left : List ModuleParts
  pub skips : Skips chosen members left
  pub goes : choice (length left) left chosen ≡ chosen_of given members

pub choosing_start : (given members : List ModuleParts) → IsChoosing given members given
choosing_start given members = grind (arith, skips_all given members)

pub choosing_more : (given members chosen : List ModuleParts) (index : ℕ) (m : ModuleParts)
    → IsChoosing given members chosen → IsNextAt chosen members index → m ≡ get_or members index m
    → IsChoosing given members (chosen ++ m ∷ [])
choosing_more given members chosen index m h next is =
    let t = taken chosen m members h.left index h.skips next.inside (next.needed m) (omega arith) in
    rw is grind arith

last_by : (turns : ℕ) (chosen left : List ModuleParts) → first_needed chosen left ≡ None
    → choice turns left chosen ≡ chosen
last_by turns chosen left h = grind arith

-- where none is needed, all are chosen
pub choosing_done : (given members chosen : List ModuleParts) → IsChoosing given members chosen
    → ((k : ℕ) (d : ModuleParts) → k < length members → is_needed chosen (get_or members k d) ≡ false) → chosen
    ≡ chosen_of given members
choosing_done given members chosen h none =
    sym (last_by (length h.left) chosen h.left (grind (arith, none_taken))) ∙ h.goes

-- what is chosen stays chosen
grows : (turns : ℕ) (left chosen : List ModuleParts) → length chosen ≤ length (choice turns left chosen)
grows zero left chosen = omega arith
grows (suc turns) left chosen = grind (arith, length-append, grows turns)

-- too many modules are refused, whatever they are
too_many : (modules : List ModuleParts) → nat_lt MOST_MODULES (length modules) ≡ true → resolved_or_refused modules
    ≡ Err (Limit Modules)
too_many modules h = cc

pub few_is : (count : ℕ) → nat_lt MOST_MODULES count ≡ false → count ≤ MOST_MODULES
few_is count h = grind (arith, nat_tests, h)

-- where none is chosen next, the answer is that of the whole choice
pub stopped : (given members chosen : List ModuleParts) → IsChoosing given members chosen → IsNext chosen members None
    → resolved_or_refused chosen ≡ resolved_or_refused (chosen_of given members)
stopped given members chosen h (inl many) =
    let more : length chosen ≤ length (chosen_of given members) = grind (arith, grows) in
    too_many chosen many ∙ sym (too_many (chosen_of given members) (grind (arith, nat_tests)))
stopped given members chosen h (inr none) = cc (choosing_done given members chosen h none)
