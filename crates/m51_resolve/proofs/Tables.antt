-- The tables: what they hold for an item of a module, and the names that modules define.
use Rattle.m51_resolve.proofs
use Rattle.std.proofs.lemmas.Grind.{common_steps}
use Rattle.std.proofs.Common.{◌-◌, add-one}
use Rattle.std.specs.Prelude.{IsSome, ◌==◌}
use Rattle.std.proofs.lemmas.List.{get_or_default, at_drop_more, get_or-map, length-take-le}
use Rattle.std.proofs.lemmas.Option.{get_or_from_slice_get, slice_get_within, slice_get-map}
use Rattle.std.specs.List.{position_from}
use Rattle.std.proofs.lemmas.Iterator.Adapters.{position_from-zero}
use Rattle.m51_module.proofs.NotedNames.{or_last}
use Rattle.m51_resolve.specs.declared.segment.JoinedSegment.{JoinedSegment}
use Rattle.m51_resolve.specs.Joining.{part_of, segment_at, segments_before}
use Rattle.m51_resolve.specs.Kept.{AreKept}
use Rattle.m51_resolve.specs.Publics.{external_at, public_of, resolving}
use Rattle.m51_resolve.specs.WorkNames.{NotesAsked, again, defined_by, definition_at, is_shared, noted, Notes}
use Rattle.m51_resolve.specs.WorkNames.{two_define}
use Rattle.m51_resolve.specs.Rules.{shared_after}
use proofs.Common.{◌≡◌, ℕ, suc, ◌+◌, ◌<◌, List, [], ◌∷◌, ◌++◌, length, take, drop, get_or, refl, sym, ap, ◌∙◌, arith}
use proofs.Common.{Option, Some, flat_map, slice_get, option_map_or, length-map, ModuleParts, Segment, External, Public}
use proofs.Common.{SegmentPart, Definition, all_segments, firsts, joined_of, part_after, AreStarts, all_externals}
use proofs.Common.{definition_among, definition_from, public_definition, Bool, true, false, cond, not, ◌&&◌, ◌||◌, None}
use proofs.Common.{is_some, zero-add, list_any-append, bytes_eq-Decides, list_any, option_or, option_map, position}
use proofs.Common.{bytes_eq, defines, has_public, defining_module, AreAskedFor, AreDefinitions, definition_in}
use proofs.Common.{entry_by_name, shared_in, wanted_in, Defined, map, append_assoc, take_more, wants, AreNamed}
use proofs.Common.{AreWanted, Wants, slice_get-get_or, find}
use proofs.Lookups.{around, found, get_flat, get_part, IsThere, take_flat, there}
use proofs.Within.{offset_fits, part_number}

-- What the tables hold for an item of a module.

-- the table holds the value for the item of that number of the module of that number
pub record IsEntry {B : Type 0} (starts : List ℕ) (table : List B) (value : B) (m s : ℕ) : Type 0 where
  pub inside : m < length starts
  pub before : ℕ
  pub start : (d : ℕ) → get_or starts m d ≡ before
  pub index : ℕ
  pub number : s ≡ suc index
  pub within : before + index < length table
  pub at : (d : B) → get_or table (before + index) d ≡ value

-- where the items of its module begin, its own index, and what is read there
module _ {B : Type 0} {starts : List ℕ} {table : List B} {value : B} {m s start from : ℕ}
    (e : IsEntry starts table value m s) (read : start ≡ get_or starts from start) (is : from ≡ m) where
  pub begin : start ≡ e.before
  begin = grind arith

  pub stands : {number : ℕ} → number ≡ s → start + number - 1 ≡ e.before + e.index
  stands number_is = grind arith

  pub reads : {number : ℕ} {item : B} → number ≡ s → item ≡ get_or table (start + number - 1) item → item ≡ value
  reads number_is item_is = grind arith

before_is : (modules : List ModuleParts) (m s : ℕ) (t : IsThere (λ m. m.segments) modules m s)
    → segments_before modules m s ≡ all_segments (take m modules) ++ take t.index t.holder.segments
before_is modules m s t = grind arith

abbrev segments_in : ModuleParts → List Segment
segments_in m = m.segments

abbrev externals_in : ModuleParts → List External
externals_in m = m.externals

entry : {A B : Type 0} (items : ModuleParts → List A) (modules : List ModuleParts) (starts : List ℕ) (table : List B)
    (value : B) (m s : ℕ) → AreStarts items modules starts
    → (t : IsThere items modules m s) → slice_get table (length (flat_map items (take m modules)) + t.index)
    ≡ Some value → IsEntry starts table value m s
entry items modules starts table value m s are t at =
    let before = length (flat_map items (take m modules)) in
    let below : m < length modules = slice_get_within modules m t.holder t.is in
    let inside : m < length starts = omega (arith, are.len, below) in
    record {
      inside = inside;
      before = before;
      start = grind (arith, get_or_default);
      index = t.index;
      number = t.number;
      within = grind (arith, slice_get_within);
      at = grind (arith, get_or_from_slice_get);
    }

-- the part that a segment is
pub record IsPartEntry (modules : List ModuleParts) (starts : List ℕ) (table : List SegmentPart)
    (m s : ℕ) : Type 0 where
  pub part : SegmentPart
  pub entry : IsEntry starts table part m s
  pub number : part.number < 65536
  pub offset : part.offset < 65536
  pub value : (part.number, part.offset) ≡ part_of modules m s

-- the public that resolves an external
pub record IsPublicEntry (modules : List ModuleParts) (starts : List ℕ) (table : List Definition)
    (m e : ℕ) : Type 0 where
  pub definition : Definition
  pub entry : IsEntry starts table definition m e
  pub number : definition.number < 256
  pub value : (definition.number, definition.index) ≡ public_of modules m e

among_number : (number index : ℕ) (name : List ℕ) (publics : List Public) (d : Definition)
    → definition_among number index name publics ≡ Some d → d.number ≡ number
among_number number index name [] d h = cc
among_number number index name (p ∷ more) d h = grind (arith, among_number number (index + 1) name more d)

-- the module of a definition is one of those searched
pub definition_number : (number : ℕ) (name : List ℕ) (modules : List ModuleParts) (d : Definition)
    → definition_from number name modules ≡ Some d
    → d.number < number + length modules
definition_number number name [] d h = cc
definition_number number name (m ∷ more) d h =
    grind (arith, among_number number 0 name m.publics d, definition_number (number + 1) name more d)

-- What is kept of the modules, which contracts see as another list, and an item of a module.
module _ {modules seen : List ModuleParts} {joined : List JoinedSegment} {segment_starts public_starts : List ℕ}
    {parts : List SegmentPart} {publics : List Definition}
    (kept : AreKept modules joined segment_starts parts public_starts publics) (view : modules ≡ seen) (m s : ℕ) where
  pub part_entry : IsSome (segment_at seen m s) → IsPartEntry seen segment_starts parts m s
  part_entry h =
      let t = there segments_in modules m s (rw (← view) at h) in
      let all = all_segments modules in
      let n = length (flat_map segments_in (take m modules)) + t.index in
      let is : slice_get all n ≡ Some t.item = get_flat segments_in modules m t.index t.holder t.item t.is t.at in
      let part = part_after (take n all) t.item in
      let whole : all ≡ take n all ++ t.item ∷ drop (suc n) all = around all n t.item is in
      rw (← view) (record {
        part = part;
        entry = entry segments_in modules segment_starts parts part m s kept.segment_starts t
            (rw kept.parts (get_part [] all n t.item is));
        number = omega (
          arith,
          part_number (take n all) t.item (drop (suc n) all),
          ap (λ xs. length (firsts xs)) whole,
          length-map (firsts all) (joined_of all),
          kept.resolved.few_segments,
        );
        offset = omega (arith, offset_fits modules (take n all) t.item (drop (suc n) all) whole kept.resolved.sizes);
        value = ap (λ b. let p : SegmentPart = part_after b t.item in (p.number, p.offset))
            (take_flat segments_in modules m t.index t.holder t.is
            (omega (arith, slice_get_within t.holder.segments t.index t.item t.at)) ∙ sym (before_is modules m s t))
            ∙ sym (ap (λ o. option_map_or (λ segment.
            let p : SegmentPart = part_after (segments_before modules m s) segment in (p.number, p.offset)) o (0, 0))
            (found segments_in modules m s t));
      })

  pub public_entry : IsSome (external_at seen m s) → IsPublicEntry seen public_starts publics m s
  public_entry h =
      let t = there externals_in modules m s (rw (← view) at h) in
      let n = length (flat_map externals_in (take m modules)) + t.index in
      rw (← view) grind (
        arith,
        common_steps,
        get_flat externals_in modules m t.index t.holder t.item t.is t.at,
        slice_get-map (resolving modules) (all_externals modules) n,
        resolving modules t.item,
        entry externals_in modules public_starts publics (resolving modules t.item) m s kept.public_starts t,
        definition_number 0 t.item.name modules,
        kept.resolved.few_modules,
      )

-- The table of the names that modules define.
-- The names of modules in their tables, module by module.
-- Publics that two modules define.

-- what a table holds
abbrev pub Table : Type 0
Table = List (List ℕ × Defined)

-- with the mark that another module defines the name, where it has one of these publics
abbrev shares : Defined → ℕ → Bool → Defined
shares x number any = record { first = x.first; shared = x.shared || (not (x.first.number == number) && any) }

-- the publics of one more module of a name that is known, and of a new one
noted_known : (x : Defined) (number index : ℕ) (name : List ℕ) (ps : List Public)
    → noted (Some x) number index name ps ≡ Some (shares x number (list_any (λ z. bytes_eq z.name name) ps))
noted_known x number index name [] = grind arith
noted_known x number index name (p ∷ more) = grind (
  arith,
  noted_known x number (index + 1) name more,
  noted_known (again (Some x) (definition_at number index p)) number (index + 1) name more,
)

noted_new : (number index : ℕ) (name : List ℕ) (ps : List Public) → noted None number index name ps
    ≡ option_map (λ d. record { first = d; shared = false }) (definition_among number index name ps)
noted_new number index name [] = refl
noted_new number index name (p ∷ more) = grind (arith, noted_new number (index + 1) name more, noted_known)

-- the definition of a name among the modules and one more
definition_push : (number : ℕ) (name : List ℕ) (ms : List ModuleParts) (m : ModuleParts)
    → definition_from number name (ms ++ m ∷ [])
    ≡ option_or (definition_from number name ms) (definition_among (number + length ms) 0 name m.publics)
definition_push number name [] m = grind arith
definition_push number name (x ∷ ms) m = grind (arith, definition_push (number + 1) name ms m)

-- whether two modules define the name, with one more module
two_push : (name : List ℕ) (ms : List ModuleParts) (m : ModuleParts)
    → two_define (ms ++ m ∷ []) name ≡ (two_define ms name || (defines ms name && has_public name m))
two_push name [] m = grind arith
two_push name (x ∷ ms) m = grind (arith, list_any-append, two_push name ms m)

-- the module of a definition is the first that has a public of the name
among_module : (number index : ℕ) (name : List ℕ) (ps : List Public)
    → defining_module (definition_among number index name ps)
    ≡ cond (list_any (λ z. bytes_eq z.name name) ps) (Some number) None
among_module number index name [] = refl
among_module number index name (p ∷ more) = grind (arith, among_module number (index + 1) name more)

from_module : (number : ℕ) (name : List ℕ) (ms : List ModuleParts)
    → defining_module (definition_from number name ms) ≡ position_from (has_public name) number ms
from_module number name [] = refl
from_module number name (m ∷ more) =
    grind (arith, among_module number 0 name m.publics, from_module (number + 1) name more)

pub module_is : (ms : List ModuleParts) (name : List ℕ) → defining_module (public_definition ms name)
    ≡ position (has_public name) ms
module_is ms name = grind (arith, from_module, position_from-zero)

from_some : (number : ℕ) (name : List ℕ) (ms : List ModuleParts) → is_some (definition_from number name ms)
    ≡ defines ms name
from_some number name [] = refl
from_some number name (m ∷ more) =
    grind (arith, among_module number 0 name m.publics, from_some (number + 1) name more)

-- the modules define a name that has a definition
pub definition_some : (ms : List ModuleParts) (name : List ℕ) → is_some (public_definition ms name) ≡ defines ms name
definition_some ms name = from_some 0 name ms

-- where none defines the name, no two do
no_two : (name : List ℕ) (ms : List ModuleParts) → defines ms name ≡ false → two_define ms name ≡ false
no_two name [] h = refl
no_two name (m ∷ more) h = grind (arith, no_two name more)

-- what is known of a name after one more module
pushed_by : (ms : List ModuleParts) (m : ModuleParts) (name : List ℕ) (o : Option Definition)
    → public_definition ms name ≡ o
    → noted (option_map (λ d. record { first = d; shared = two_define ms name }) o) (length ms) 0 name m.publics
    ≡ option_map (λ d. record { first = d; shared = two_define (ms ++ m ∷ []) name })
    (option_or o (definition_among (length ms) 0 name m.publics))
pushed_by ms m name None is =
    let undefined : defines ms name ≡ false = cc (definition_some ms name) in
    rw (noted_new (length ms) 0 name m.publics, two_push name ms m, no_two name ms undefined, undefined)
pushed_by ms m name (Some d) is = grind (
  arith,
  definition_number 0 name ms d is,
  noted_known (record { first = d; shared = two_define ms name }) (length ms) 0 name m.publics,
  two_push name ms m,
  definition_some ms name,
)

push_at : (ms : List ModuleParts) (m : ModuleParts) (name : List ℕ) (old new : Option Defined) (number : ℕ)
    (ps : List Public) → old ≡ defined_by ms name → new ≡ noted old number 0 name ps
    → number ≡ length ms → ps ≡ m.publics → new ≡ defined_by (ms ++ m ∷ []) name
push_at ms m name old new number ps are notes number_is ps_are =
    rw (notes, are, number_is, ps_are, definition_push 0 name ms m, zero-add (length ms)) (pushed_by ms m name _ refl)

-- the table has the publics of one more module; the same of the names that are asked for
module _ (ms : List ModuleParts) (m : ModuleParts) (old new : Table) (number : ℕ) (ps : List Public) where
  pub definitions_push : AreDefinitions ms old → Notes old number ps new → number ≡ length ms → ps ≡ m.publics
      → AreDefinitions (ms ++ m ∷ []) new
  definitions_push are notes number_is ps_are = record {
    each = λ name. push_at ms m name _ _ number ps (are.each name) (notes.each name) number_is ps_are;
  }

  pub asked_push : (asked : List (List ℕ)) → AreAskedFor asked ms old → NotesAsked asked old number ps new
      → number ≡ length ms → ps ≡ m.publics → AreAskedFor asked (ms ++ m ∷ []) new
  asked_push asked are notes number_is ps_are = record {
    each = λ name is. push_at ms m name _ _ number ps (are.each name is) (notes.each name is) number_is ps_are;
  }

pub asked_at : (asked : List (List ℕ)) (ms : List ModuleParts) (table : Table) → AreAskedFor asked ms table
    → (name : List ℕ) → wanted_in asked name ≡ true → definition_in table name ≡ public_definition ms name
asked_at asked ms table are name is = grind arith

module _ (ms : List ModuleParts) (table : Table) (are : AreDefinitions ms table) where
  pub found_at : (name : List ℕ) → definition_in table name ≡ public_definition ms name
  found_at name = grind arith

  -- what the table finds is what the modules define
  pub definitions_are : definition_in table ≡ public_definition ms
  definitions_are = λ i name. found_at name i

  pub shared_is : (name : List ℕ) → shared_in table name ≡ two_define ms name
  shared_is name =
      let none = no_two name ms in
      let some = definition_some ms name in
      ap is_shared (are.each name) ∙ grind arith

-- of the names of which something holds the publics from an index on are still to be noted
pub record NotesFrom (Asked : List ℕ → Type 0) (old : Table) (number : ℕ) (publics : List Public) (index : ℕ)
    (now : Table) : Type 0 where
  pub each : (name : List ℕ) → Asked name → noted (entry_by_name now name) number index name (drop index publics)
      ≡ noted (entry_by_name old name) number 0 name publics

-- one more public is noted
pub note_more : (Asked : List ℕ → Type 0) (old now new : Table) (number : ℕ) (publics : List Public) (index : ℕ)
    (p : Public) (d : Definition) → NotesFrom Asked old number publics index now → index < length publics
    → p ≡ get_or publics index p → d ≡ definition_at number index p
    → ((name : List ℕ) → Asked name → entry_by_name new name
    ≡ cond (bytes_eq p.name name) (Some (again (entry_by_name now p.name) d)) (entry_by_name now name))
    → NotesFrom Asked old number publics (index + 1) new
note_more Asked old now new number publics index p d notes below is d_is puts = record {
  each = λ name a.
      let put : entry_by_name new name
      ≡ cond (bytes_eq p.name name) (Some (again (entry_by_name now name) d)) (entry_by_name now name) =
      let put = puts name a in let same = (bytes_eq-Decides p.name name).0 in grind arith in
      rw (put, d_is)
      (ap (λ x. noted (entry_by_name now name) number index name (x ∷ drop (index + 1) publics)) is
      ∙ sym (at_drop_more (noted (entry_by_name now name) number index name) publics index p below)
      ∙ notes.each name a);
}

-- a name that is not asked for
pub puts_nothing : (asked : List (List ℕ)) (name : List ℕ) (table : Table) (d : Definition)
    → wanted_in asked name ≡ false
    → (other : List ℕ) → wanted_in asked other ≡ true → entry_by_name table other
    ≡ cond (bytes_eq name other) (Some (again (entry_by_name table name) d)) (entry_by_name table other)
puts_nothing asked name table d none other some = let same = (bytes_eq-Decides name other).0 in grind arith

-- an item of the borrowed list
pub lent_is : {X : Type 0} (f : X → ModuleParts) (xs : List X) (i : ℕ) (x : X) → i < length xs → x ≡ get_or xs i x → f x
    ≡ get_or (map f xs) i (f x)
lent_is f xs i x below is = grind (arith, get_or-map)

lent_more : {X : Type 0} (f : X → ModuleParts) (xs : List X) (i : ℕ) (x : X) → i < length xs → x ≡ get_or xs i x
    → take (i + 1) (map f xs) ≡ take i (map f xs) ++ f x ∷ []
lent_more f xs i x below is = grind (arith, common_steps, length-map xs f, map f xs, f x, lent_is f xs i x below is)

-- the set has the externals of one more module
wanted_push : (ms : List ModuleParts) (m : ModuleParts) (old new : List (List ℕ)) (es : List External)
    → AreWanted ms old → Wants old es new → es ≡ m.externals → AreWanted (ms ++ m ∷ []) new
wanted_push ms m old new es are want es_are = grind (arith, or_last, wants, list_any-append)

-- the tables of no module are empty
pub none_named : AreNamed [] [] []
none_named = grind arith

-- the tables with the names of one more module
module _ (m : ModuleParts) (old new : Table) (names names' : List (List ℕ)) (ps : List Public)
    (es : List External) where
  pub named_push : (ms : List ModuleParts) (number : ℕ) → AreNamed ms old names → number ≡ length ms
      → Notes old number ps new → ps ≡ m.publics → Wants names es names' → es ≡ m.externals
      → AreNamed (ms ++ m ∷ []) new names'
  named_push ms number are number_is notes ps_are want es_are = grind (arith, definitions_push, wanted_push)

  pub named_more : (modules : List ModuleParts) (count : ℕ) → AreNamed (take count modules) old names
      → count < length modules → m ≡ get_or modules count m → Notes old count ps new → ps ≡ m.publics
      → Wants names es names' → es ≡ m.externals → AreNamed (take (count + 1) modules) new names'
  named_more modules count are below is notes ps_are want es_are =
      let few : count ≡ length (take count modules) = grind (arith, length-take-le) in
      rw (take_more modules count m below, ← is)
      (named_push (take count modules) count are few notes ps_are want es_are)

-- the definitions of one more module, of those that are borrowed
pub definitions_more : {X : Type 0} (asked : List (List ℕ)) (f : X → ModuleParts) (xs : List X) (count : ℕ) (x : X)
    (old new : Table) (ps : List Public) → AreAskedFor asked (take count (map f xs)) old → count < length xs
    → x ≡ get_or xs count x → NotesAsked asked old count ps new → ps ≡ (f x).publics
    → AreAskedFor asked (take (count + 1) (map f xs)) new
definitions_more asked f xs count x old new ps are below is notes ps_are =
    let few : count ≡ length (take count (map f xs)) =
    sym (length-take-le count (map f xs) (omega (arith, length-map xs f))) in
    rw (lent_more f xs count x below is)
    (grind (arith, asked_push))

-- the names that modules need, with one more of the borrowed modules
pub wanted_more : {X : Type 0} (f : X → ModuleParts) (before : List ModuleParts) (xs : List X) (count : ℕ) (x : X)
    (old new : List (List ℕ)) (es : List External) → AreWanted (before ++ take count (map f xs)) old
    → count < length xs → x ≡ get_or xs count x → Wants old es new → es ≡ (f x).externals
    → AreWanted (before ++ take (count + 1) (map f xs)) new
wanted_more f before xs count x old new es are below is want es_are =
    rw (lent_more f xs count x below is, ← append_assoc before (take count (map f xs)) (f x ∷ []))
    (grind (arith, wanted_push))

-- a name that a module defines is defined by two where another of the modules defines it
two_around : (name : List ℕ) (before after : List ModuleParts) (m : ModuleParts) → has_public name m ≡ true
    → two_define (before ++ m ∷ after) name ≡ defines (before ++ after) name
two_around name [] after m h = rw h
two_around name (x ∷ before) after m h = grind (arith, list_any-append, two_around name before after m h)

-- two tests that agree at the names of these publics find the same
find_same : (f g : Public → Bool) (xs : List Public)
    → ((p : Public) → list_any (λ q. bytes_eq q.name p.name) xs ≡ true → f p ≡ g p) → find f xs ≡ find g xs
find_same f g [] h = refl
find_same f g (x ∷ xs) h =
    rw (
      h x (rw ((bytes_eq-Decides x.name x.name).1 refl)),
      find_same f g xs (grind arith),
    )

-- one module further: the table says which of its publics others share
pub shared_step : {modules : List ModuleParts} {table : Table} (number : ℕ) {m : ModuleParts} {ps : List Public}
    → AreDefinitions modules table → number < length modules → m ≡ get_or modules number m
    → ps ≡ m.publics → shared_after (take number modules) (drop number modules)
    ≡ option_or (option_map (λ p. p.name) (find (λ p. shared_in table p.name) ps))
    (shared_after (take (number + 1) modules) (drop (number + 1) modules))
shared_step {modules = modules} {table = table} number {m = m} are below is ps_are =
    let before = take number modules in
    let after = drop (number + 1) modules in
    let whole : modules ≡ before ++ m ∷ after =
    rw add-one (around modules number m (slice_get-get_or modules number m below ∙ ap Some (sym is))) in
    let same = find_same (λ p. shared_in table p.name) (λ p. defines (before ++ after) p.name) m.publics
    (λ p has. shared_is modules table are p.name ∙ ap (λ ms. two_define ms p.name) whole
    ∙ two_around p.name before after m has) in
    at_drop_more (shared_after before) modules number m below
    ∙ rw (take_more modules number m below, ← is, ps_are, same)
