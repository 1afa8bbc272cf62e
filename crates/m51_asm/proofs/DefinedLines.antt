-- The names of a text: the table and the set of public names as the maps keep them; what is defined above a line, and
-- where one repeats; the values that lines give, and what names mean at a line by them.
use Rattle.m51_asm.proofs
use Rattle.m51_asm.specs
use proofs.Common.{◌≡◌, ℕ, Bool, true, false, cond, List, [], ◌∷◌, ◌++◌, refl, ap, None, lookup, Vec, bytes_eq}
use proofs.Common.{first_in, not, map, ◌∙◌, list_any, made_public, arith, entries_of, zero, suc, ◌+◌, ◌<◌, ◌&&◌, ◌||◌}
use proofs.Common.{length, take, Option, Some, option_map, is_some, slice_get, sym, subst, take_all, bytes_eq-Decides}
use proofs.Common.{LineTree, body_of, brief, first_definition, Table, append-nil, how_of, clash, all_noted, any_clash}
use proofs.Common.{all_public, any_public, ◌≢◌, inl, inr, or_parts, body_at, Located, value_in, ◌≤◌, Kind, BodyTree}
use proofs.Common.{StmtTree, Giving, Assignment, here_at, located_value, Value, valuation_of, known, Puts, Extrn, Brief}
use proofs.Common.{nat_lt, Fits, is_absolute, Valuation, Meanings, SegmentEntry, kept_meanings, with_label, Code}
use specs.declared.names.FirstDefinition.{FirstDefinition}
use Rattle.indexmap.specs.IndexMap.{insert_entry}
use Rattle.std.proofs.lemmas.List.{map-append, append_assoc}
use specs.Definitions.{Definition, Defined, definitions_in, found_in, definition_from, definition_of, label_defined}
use specs.Definitions.{defined_by, or_later, ExternOf, externals_from, Label}
use specs.Assignment.{defined_of, line_definitions, above, if_before, value_before, is_bitaddressable, down_to}
use specs.Repeats.{clashes, or_here, repeats_from, publics_in, publics_again, has_public, names_module, is_repeated}
use specs.Repeats.{IsFirstRepeat, is_set, repeats_a_name}
use Rattle.std.proofs.Math.Bool.{or-false, or_assoc, or_comm}
use Rattle.std.proofs.lemmas.List.Folds.{list_any-append}
use specs.declared.repeats.Defining.{Defining}
use specs.Defining.{nothing_defined, line_again, first_again, line_defined, all_defined}
use Rattle.m51_cells.proofs.Members.{In, Pairs, every_of, in_left, in_right}
use specs.Fitting.{externals_in, set_by, value_by, externals_before, last_set, named_value, form_by, undefined_value}
use specs.ValuesAbove.{or_kept, line_value, value_above, defined_value, seen_value}
use specs.GivenValues.{expression_given, given_or, given_by, HaveNumbers}
use specs.NamesAt.{IsKeptOf, or_label}
use specs.ValuesAt.{value_by_first, value_at, is_label}

-- the map's entry of a name
pub lookup_is : (name : List ℕ) (entries : List (Vec ℕ × FirstDefinition))
    → lookup (λ (k : Vec ℕ). bytes_eq name k.items) entries ≡ first_in (entries_of entries) name
lookup_is name [] = refl
lookup_is name (e ∷ es) = cc (lookup_is name es)

-- a new name goes last
pub put_last : (entries : List (Vec ℕ × FirstDefinition)) (key : Vec ℕ) (first : FirstDefinition)
    → first_in (entries_of entries) key.items ≡ None
    → entries_of (insert_entry (λ (a b : Vec ℕ). bytes_eq a.items b.items) entries key first) ≡ entries_of entries
    ++ (key.items, first) ∷ []
put_last [] key first h = refl
put_last (e ∷ es) key first h = grind (arith, put_last es key first)

abbrev names_of : List (Vec ℕ) → List (List ℕ)
names_of keys = map (λ k. k.items) keys

pub keys_any : (name : List ℕ) (keys : List (Vec ℕ))
    → list_any (λ (k : Vec ℕ). bytes_eq name k.items) keys ≡ list_any (bytes_eq name) (names_of keys)
keys_any name [] = refl
keys_any name (k ∷ ks) = cc (keys_any name ks)

pub twice : (b : Bool) → not (not b) ≡ b
twice b = grind arith

-- a name that is put into the set
pub key_put : (keys : List (Vec ℕ)) (key : Vec ℕ)
    → names_of (cond (list_any (λ (k : Vec ℕ). bytes_eq key.items k.items) keys) keys (keys ++ key ∷ []))
    ≡ made_public (names_of keys) key.items
key_put keys key = grind (arith, keys_any key.items keys, map-append)

-- The state after the first lines of a text: the first definitions above, what is public and named there, and where a
-- line repeats.

pub or_none : {A : Type 0} (o : Option A) → or_here o None ≡ o
or_none b = grind arith

-- a definition with its line
unfoldable pub at_line : ℕ → Definition → ℕ × Definition
at_line line h = (line, h)

found_last : (ds : List Defined) (d : Defined) (name : List ℕ)
    → found_in (ds ++ d ∷ []) name ≡ or_here (found_in ds name) (cond (bytes_eq name d.0) (Some d.1) None)
found_last [] d name = refl
found_last (e ∷ ds) d name = grind (arith, found_last ds d name)

first_last : (table : Table) (key : List ℕ) (f : FirstDefinition) (name : List ℕ)
    → first_in (table ++ (key, f) ∷ []) name ≡ or_here (first_in table name) (cond (bytes_eq name key) (Some f) None)
first_last [] key f name = refl
first_last (e ∷ table) key f name = grind (arith, first_last table key f name)

-- the first definition of a name after one more line
from_more : (lines : List LineTree) (k number last : ℕ) (l : LineTree) (name : List ℕ) → slice_get lines k ≡ Some l
    → last ≡ number + k
    → definition_from number (take (suc k) lines) name
    ≡ or_here (definition_from number (take k lines) name)
    (option_map (at_line last) (found_in (definitions_in l.stmt) name))
unfolding at_line
from_more [] k number last l name is e = absurd (cc is)
from_more (x ∷ lines) zero number last l name is e = grind arith
from_more (x ∷ lines) (suc k) number last l name is e =
    grind (arith, from_more lines k (suc number) last l name is (omega arith))

pub defined_more : (lines : List LineTree) (k : ℕ) (l : LineTree) (name : List ℕ) → slice_get lines k ≡ Some l
    → definition_of (take (suc k) lines) name
    ≡ or_here (definition_of (take k lines) name) (option_map (at_line k) (found_in (definitions_in l.stmt) name))
unfolding definition_of
defined_more lines k l name is = from_more lines k 0 k l name is (omega arith)

-- a table has the first definitions above line k, and those before in the line
record Sees (lines : List LineTree) (k : ℕ) (table : Table) (before : List Defined) : Type 0 where
  names : (name : List ℕ) → first_in table name ≡ option_map first_definition
      (or_here (definition_of (take k lines) name) (option_map (at_line k) (found_in before name)))

-- a name of a table is found under each equal text
held : (table : Table) (name key : List ℕ) (f g : FirstDefinition) (b : Bool) → bytes_eq name key ≡ b
    → first_in table key ≡ Some f
    → first_in table name ≡ or_here (first_in table name) (cond b (Some g) None)
held table name key f g b e h = grind (arith, bytes_eq-Decides)

noted_in : (table : Table) (name key : List ℕ) (g : FirstDefinition) (o : Option FirstDefinition)
    → first_in table key ≡ o
    → first_in (cond (is_some o) table (table ++ (key, g) ∷ [])) name
    ≡ or_here (first_in table name) (cond (bytes_eq name key) (Some g) None)
noted_in table name key g b h = grind (arith, held, first_last)

-- what the table has is found by the definitions above, by those before in the line, and by one more
join : (k : ℕ) (above : Option (ℕ × Definition)) (before : Option Definition) (b : Bool) (d : Definition)
    → or_here (option_map first_definition (or_here above (option_map (at_line k) before)))
    (cond b (Some (first_definition (k, d))) None)
    ≡ option_map first_definition (or_here above (option_map (at_line k) (or_here before (cond b (Some d) None))))
unfolding at_line
join k c before b d = grind arith

clash_same : (k : ℕ) (above : Option (ℕ × Definition)) (before : Option Definition) (d : Definition)
    → clash (option_map first_definition (or_here above (option_map (at_line k) before))) (how_of d)
    ≡ clashes (or_here (option_map (λ d. d.1) above) before) d
unfolding at_line
clash_same k b before d = grind arith

-- a line repeats a name where the table says so, and the table has its definitions after it
line_seen : {lines : List LineTree} {k : ℕ} (ds : List Defined) {table : Table} {before : List Defined}
    → Sees lines k table before
    → (any_clash table k (map brief ds) ≡ repeats_from lines k before ds)
    × Sees lines k (all_noted table k (map brief ds)) (before ++ ds)
line_seen {lines} {k} [] {table} {before} s = (refl, subst (Sees lines k table) (sym (append-nil before)) s)
line_seen {lines} {k} (d ∷ ds) {table} {before} s =
    let above = λ (name : List ℕ). definition_of (take k lines) name in
    let more = line_seen ds (record {
      names = λ name.
          rw (noted_in table name d.0 (first_definition (k, d.1)) _ refl, s.names, found_last) (join k _ _ _ d.1);
    }) in (
      λ i. (ap (λ o. clash o (how_of d.1)) (s.names d.0) ∙ clash_same k (above d.0) _ d.1) i
          || more.0 i,
      subst (Sees lines k (all_noted table k (map brief (d ∷ ds)))) (append_assoc before (d ∷ []) ds) more.1,
    )

-- the names that are public above line k, and those before in the line
record SeesPublic (lines : List LineTree) (k : ℕ) (publics before : List (List ℕ)) : Type 0 where
  names : (name : List ℕ)
      → list_any (bytes_eq name) publics
      ≡ (list_any (bytes_eq name) before || list_any (has_public name) (take k lines))

-- a name that is among texts is so as each equal text
also_public : (publics : List (List ℕ)) (name key : List ℕ) (b : Bool) → bytes_eq name key ≡ b
    → list_any (bytes_eq key) publics ≡ true
    → list_any (bytes_eq name) publics ≡ (list_any (bytes_eq name) publics || b)
also_public publics name key b e h = grind (arith, bytes_eq-Decides)

made_in : (publics : List (List ℕ)) (name key : List ℕ) (b : Bool) → list_any (bytes_eq key) publics ≡ b
    → list_any (bytes_eq name) (cond b publics (publics ++ key ∷ []))
    ≡ (list_any (bytes_eq name) publics || (bytes_eq name key || false))
made_in publics name key b h = grind (arith, also_public, or-false, list_any-append)

moved : (b t e : Bool) → ((b || t) || e) ≡ ((b || e) || t)
moved b t e = grind arith

publics_seen : {lines : List LineTree} {k : ℕ} (names : List (List ℕ)) {publics before : List (List ℕ)}
    → SeesPublic lines k publics before
    → (any_public publics names ≡ publics_again lines k before names)
    × SeesPublic lines k (all_public publics names) (before ++ names)
publics_seen {lines} {k} [] {publics} {before} s =
    (refl, subst (SeesPublic lines k publics) (sym (append-nil before)) s)
publics_seen {lines} {k} (key ∷ names) {publics} {before} s =
    let more = publics_seen names (record {
      names = λ name.
          rw (made_in publics name key _ refl, s.names, list_any-append) (moved (list_any (bytes_eq name) before) _ _);
    }) in (
      λ i. s.names key i || more.0 i,
      subst (SeesPublic lines k (all_public publics (key ∷ names))) (append_assoc before (key ∷ []) names) more.1,
    )

-- where the lines above line k repeat first
abbrev IsFirstAbove : List LineTree → ℕ → Option ℕ → Type 0
IsFirstAbove lines k None = (j : ℕ) → j < k → is_repeated lines j ≡ false
IsFirstAbove lines k (Some r) = ((r < k) × (is_repeated lines r ≡ true))
    × ((j : ℕ) → j < r → is_repeated lines j ≡ false)

record IsKept (lines : List LineTree) (k : ℕ) (d : Defining) : Type 0 where
  names : (name : List ℕ) → first_in d.names name ≡ option_map first_definition (definition_of (take k lines) name)
  publics : (name : List ℕ) → list_any (bytes_eq name) d.publics ≡ list_any (has_public name) (take k lines)
  named : d.named ≡ list_any (λ line. names_module line.stmt.body) (take k lines)
  repeated : IsFirstAbove lines k d.repeated

first_by : (lines : List LineTree) (k : ℕ) (r : Option ℕ) (again : Bool) → again ≡ is_repeated lines k
    → IsFirstAbove lines k r
    → IsFirstAbove lines (suc k) (first_again r again k)
first_by lines k b again e h = grind arith

-- whether a line passes a test, with one more line
any_more : (p : LineTree → Bool) (lines : List LineTree) (k : ℕ) (l : LineTree) → slice_get lines k ≡ Some l
    → list_any p (take (suc k) lines) ≡ (list_any p (take k lines) || p l)
any_more p [] k l is = absurd (cc is)
any_more p (x ∷ lines) zero l is = grind arith
any_more p (x ∷ lines) (suc k) l is = cc (any_more p lines k l is, or_assoc (p x) _ _)

-- what is kept after one more line
kept_more : {lines : List LineTree} {k : ℕ} {d : Defining} (l : LineTree) → slice_get lines k ≡ Some l
    → IsKept lines k d
    → IsKept lines (suc k) (line_defined d k l.stmt)
unfolding line_defined is_repeated
kept_more {lines} {k} {d} l is kept =
    let names = line_seen {lines = lines} {k = k} (definitions_in l.stmt) {table = d.names} {before = []}
    (record { names = λ name. cc (kept.names name, or_none (definition_of (take k lines) name)) }) in
    let publics = publics_seen {lines = lines} {k = k} (publics_in l.stmt.body) {before = []}
    (record { names = kept.publics }) in
    record {
      names = λ name. cc (names.1.names name, defined_more lines k l name is);
      publics = λ name. publics.1.names name ∙ or_comm (has_public name l) _ ∙ sym (any_more _ lines k l is);
      named = cc (kept.named, any_more (λ line. names_module line.stmt.body) lines k l is);
      repeated =
          first_by lines k d.repeated (line_again d k l.stmt)
          (λ i. ((names.0 ∙ ap (λ o. repeats_from lines k [] (defined_of o)) (sym is)) i
          || (publics.0 ∙ ap (λ o. publics_again lines k [] (publics_in (body_of o))) (sym is)) i)
          || (names_module (body_of (sym is i)) && kept.named i))
          kept.repeated;
    }

-- what holds of the whole text
pub record IsDefined (lines : List LineTree) (d : Defining) : Type 0 where
  pub names : (name : List ℕ) → first_in d.names name ≡ option_map first_definition (definition_of lines name)
  pub repeated : IsFirstRepeat lines d.repeated

-- from line k on, after which these lines come
kept_all : {lines : List LineTree} (rest : List LineTree) (k : ℕ) {d : Defining}
    → ((j n : ℕ) → n ≡ k + j → slice_get lines n ≡ slice_get rest j) → length lines ≡ k + length rest
    → IsKept lines k d
    → IsDefined lines (all_defined d k rest)
kept_all {lines} [] k {d} at all kept = grind (arith, take_all)
kept_all (l ∷ rest) k at all kept =
    kept_all rest (suc k) (λ j n e. at (suc j) n (omega arith)) (omega arith)
    (kept_more l (at 0 k (omega arith)) kept)

-- what the lines of a text define
pub all_are_defined : (lines : List LineTree) → IsDefined lines (all_defined nothing_defined 0 lines)
unfolding definition_of
all_are_defined lines =
    kept_all lines 0 (λ j n e. ap (slice_get lines) (omega arith)) (omega arith) (record {
      names = λ name. refl;
      publics = λ name. refl;
      named = refl;
      repeated = λ j h. absurd (omega arith);
    })

-- Where no line repeats, names that are no SET names are defined once, and names are public once.

-- what holds of each of these elements, and of each with those before it, among them and before them
pub record Follow {A : Type 0} (P : A → Type 0) (R : A → A → Type 0) (before xs : List A) : Type 0 where
  pub above : (x : A) → In x xs → P x
  pub within : Pairs R xs
  pub after : (x : A) → In x xs → (y : A) → In y before → R y x

follow_none : {A : Type 0} {P : A → Type 0} {R : A → A → Type 0} {before : List A} → Follow P R before []
follow_none = record { above = λ x i. absurd i; within = tt; after = λ x i. absurd i }

follow_one : {A : Type 0} {P : A → Type 0} {R : A → A → Type 0} {before xs : List A} (x : A) → P x
    → ((y : A) → In y before → R y x) → Follow P R (before ++ x ∷ []) xs → Follow P R before (x ∷ xs)
follow_one {P = P} {R = R} {before = before} {xs = xs} x p r h = record {
  above = λ z i. elim i [ inl e ↦ subst P e p | inr j ↦ h.above z j ];
  within = (every_of (R x) xs (λ y i. h.after y i x (in_right before (x ∷ []) x (inl refl))), h.within);
  after = λ z i y j. elim i [ inl e ↦ subst (R y) e (r y j) | inr l ↦ h.after z l y (in_left before (x ∷ []) y j) ];
}

-- a name that is not found is that of no definition
not_found : (ds : List Defined) (name : List ℕ) → found_in ds name ≡ None → (d : Defined) → In d ds → name ≢ d.0
not_found [] name h d i = absurd i
not_found (x ∷ ds) name h d (inl e) = grind (arith, bytes_eq-Decides)
not_found (x ∷ ds) name h d (inr j) = not_found ds name (grind arith) d j

later_none : (n : ℕ) (f : Option Definition) (later : Option (ℕ × Definition)) → or_later n f later ≡ None
    → (f ≡ None) × (later ≡ None)
later_none n b later h = grind arith

-- a name without a definition in the lines above a line is that of no definition there
none_above : (lines : List LineTree) (n k : ℕ) (name : List ℕ) → definition_from n (take k lines) name ≡ None → (j : ℕ)
    → j < k → (d : Defined) → In d (defined_by (body_at lines j)) → name ≢ d.0
none_above [] n k name h j less d i = absurd i
none_above (l ∷ lines) n zero name h j less d i = grind arith
none_above (l ∷ lines) n (suc k) name h zero less d i = grind (arith, not_found, in_right)
none_above (l ∷ lines) n (suc k) name h (suc j) less d i =
    none_above lines (suc n) k name (later_none n _ _ h).1 j (omega arith) d i

-- a definition that clashes with none and is no SET is the first of its name
is_first : (o : Option (ℕ × Definition)) (before : Option Definition) (d : Definition)
    → clashes (or_here (option_map (λ x. x.1) o) before) d ≡ false → is_set d ≡ false → (o ≡ None) × (before ≡ None)
is_first b before d h s = grind arith

-- a later definition that is no SET has another name
abbrev pub Apart : Defined → Defined → Type 0
Apart d e = is_set e.1 ≡ false → e.0 ≢ d.0

-- a definition that is no SET has another name than those above
abbrev IsNew : List LineTree → ℕ → Defined → Type 0
IsNew lines k d = is_set d.1 ≡ false → (j : ℕ) → j < k → (e : Defined) → In e (defined_by (body_at lines j)) → d.0 ≢ e.0

names_once : (lines : List LineTree) (k : ℕ) (before ds : List Defined) → repeats_from lines k before ds ≡ false
    → Follow (IsNew lines k) Apart before ds
unfolding definition_of
names_once lines k before [] h = follow_none
names_once lines k before (x ∷ ds) h =
    let p = or_parts _ _ h in
    let first = is_first (definition_of (take k lines) x.0) (found_in before x.0) x.1 p.0 in
    follow_one x (λ s. none_above lines 0 k x.0 (first s).0) (λ y i s. not_found before x.0 (first s).1 y i)
    (names_once lines k (before ++ x ∷ []) ds p.1)

-- the label of a line comes before what the line says
past_label : (lines : List LineTree) (k : ℕ) (label : Option (List ℕ)) (ds : List Defined)
    → repeats_from lines k [] (label_defined label ++ ds) ≡ false
    → Follow (IsNew lines k) Apart (label_defined label) ds
past_label lines k b ds h = grind (arith, names_once, or_parts)

abbrev label_before : Option LineTree → List Defined
label_before None = []
label_before (Some l) = label_defined l.stmt.label

line_once : (lines : List LineTree) (k : ℕ) (o : Option LineTree) → repeats_from lines k [] (defined_of o) ≡ false
    → Follow (IsNew lines k) Apart (label_before o) (defined_by (body_of o))
line_once lines k None h = follow_none
line_once lines k (Some l) h = grind (arith, past_label)

-- a line that repeats nothing
pub record IsOnce (lines : List LineTree) (k : ℕ) : Type 0 where
  pub above : (d : Defined) → In d (defined_by (body_at lines k)) → is_set d.1 ≡ false → (j : ℕ) → j < k → (e : Defined)
      → In e (defined_by (body_at lines j)) → d.0 ≢ e.0
  pub within : Pairs Apart (defined_by (body_at lines k))
  pub publics : publics_again lines k [] (publics_in (body_at lines k)) ≡ false

pub once : (lines : List LineTree) (k : ℕ) → is_repeated lines k ≡ false → IsOnce lines k
unfolding is_repeated
once lines k h =
    let q = or_parts (repeats_a_name lines k) _ (or_parts _ _ h).0 in
    let f = line_once lines k (slice_get lines k) q.0 in
    record { above = f.above; within = f.within; publics = q.1 }

-- a name among none of these
any_none : (names : List (List ℕ)) (name : List ℕ) → list_any (bytes_eq name) names ≡ false → (x : List ℕ) → In x names
    → name ≢ x
any_none [] name h x i = absurd i
any_none (y ∷ names) name h x (inl e) = grind (arith, bytes_eq-Decides)
any_none (y ∷ names) name h x (inr j) = any_none names name (grind arith) x j

no_public_above : (lines : List LineTree) (k : ℕ) (name : List ℕ) → list_any (has_public name) (take k lines) ≡ false
    → (j : ℕ) → j < k → (x : List ℕ) → In x (publics_in (body_at lines j)) → name ≢ x
no_public_above [] k name h j less x i = absurd i
no_public_above (l ∷ lines) zero name h j less x i = grind arith
no_public_above (l ∷ lines) (suc k) name h zero less x i = grind (arith, any_none)
no_public_above (l ∷ lines) (suc k) name h (suc j) less x i =
    no_public_above lines k name (or_parts (has_public name l) _ h).1 j (omega arith) x i

-- names of PUBLIC that follow those differ from them, from one another, and from the ones above
abbrev pub AreOnce : List LineTree → ℕ → List (List ℕ) → List (List ℕ) → Type 0
AreOnce lines k = Follow
    (λ (n : List ℕ). (j : ℕ) → j < k → (x : List ℕ) → In x (publics_in (body_at lines j)) → n ≢ x) (λ x y. y ≢ x)

pub publics_once : (lines : List LineTree) (k : ℕ) (before names : List (List ℕ))
    → publics_again lines k before names ≡ false → AreOnce lines k before names
publics_once lines k before [] h = follow_none
publics_once lines k before (n ∷ names) h =
    let p = or_parts _ _ h in
    let q = or_parts (list_any (bytes_eq n) before) _ p.0 in
    follow_one n (no_public_above lines k n q.1) (λ y i. any_none before n q.0 y i)
    (publics_once lines k (before ++ n ∷ []) names p.1)

-- The values of names, as the map keeps them, and those that a line gives; how the values of a text grow with a line
-- that repeats nothing.

-- the map's entry of a name
pub lookup_value : (name : List ℕ) (entries : List (Vec ℕ × Option (Located ℕ)))
    → known (lookup (λ (k : Vec ℕ). bytes_eq name k.items) entries) ≡ value_in (valuation_of entries) name
lookup_value name [] = refl
lookup_value name (e ∷ es) = grind (arith, lookup_value name es)

-- one entry more: whether its key is the one that is put in, whether it is the name, and whether the two are the same
put_step : (b p q : Bool) (v w x y : Option (Located ℕ)) → (b ≡ true → p ≡ q) → (p ≡ true → q ≡ true → b ≡ true)
    → y ≡ cond q v x → cond b (cond p v x) (cond p w y) ≡ cond q v (cond p w x)
put_step b c q v w x y s t h = grind arith

-- a value that is put in
pub put_value : (entries : List (Vec ℕ × Option (Located ℕ))) (key : Vec ℕ) (v : Option (Located ℕ))
    → Puts (valuation_of entries)
    (valuation_of (insert_entry (λ (a b : Vec ℕ). bytes_eq a.items b.items) entries key v)) key.items v
put_value [] key v other = refl
put_value (e ∷ es) key v other = grind (arith, bytes_eq-Decides, put_step, put_value es key v other)

module _ (lines : List LineTree) (a : Assignment) (k : ℕ) (g : Giving) (here : located_value g.here ≡ here_at a k)
    (line : g.line ≡ k)
    (externals : g.externals ≡ externals_before lines k) where
  -- by each of these definitions the line gives what the definition says
  abbrev Agree : List Defined → Type 0
  Agree [] = Unit {0}
  Agree (d ∷ ds) = (option_map located_value (given_by g (how_of d.1)) ≡ line_value lines a k d.1) × Agree ds

  given_in : (ds : List Defined) → Agree ds → (name : List ℕ) (kept : Option (Located ℕ))
      → option_map located_value (given_or g (map brief ds) name kept)
      ≡ or_kept lines a k (found_in ds name) (option_map located_value kept)
  given_in [] h name kept = refl
  given_in (d ∷ ds) h name kept = grind (arith, given_in ds h.1 name kept)

  externals_agree : (number : ℕ) (names : List (List ℕ × Kind)) → Agree (externals_from number names)
  externals_agree number [] = tt
  externals_agree number (e ∷ names) = (
    ap (λ n. option_map located_value (given_by (record g { externals = n }) (how_of (ExternOf e.1 number)))) externals,
    externals_agree (suc number) names,
  )

  body_agrees : (body : BodyTree) → option_map located_value g.expression ≡ expression_given (above lines a k) body
      → Agree (defined_by body)
  body_agrees body h = grind (arith, externals_agree)

  -- after a line a name has the value that its definition there gives it, or else the one that it had
  pub given : (name : List ℕ) (kept : Option (Located ℕ)) (stmt : StmtTree)
      → option_map located_value g.expression ≡ expression_given (above lines a k) stmt.body
      → option_map located_value (given_or g (map brief (definitions_in stmt)) name kept)
      ≡ or_kept lines a k (found_in (definitions_in stmt) name) (option_map located_value kept)
  given name kept stmt h = grind (arith, given_in, body_agrees)

externals_have : (above number : ℕ) (names : List (List ℕ × Kind)) → above + number + length names ≤ 255
    → HaveNumbers above (map brief (externals_from number names))
externals_have above number [] h = tt
externals_have above number (e ∷ names) h =
    (omega (arith, h), externals_have above (suc number) names (omega (arith, h)))

body_has : (above : ℕ) (body : BodyTree) → above + externals_in body ≤ 255
    → HaveNumbers above (map brief (defined_by body))
body_has above (Extrn names) h = externals_have above 0 names (omega (arith, h))
body_has above body h = grind arith

label_has : (above : ℕ) (label : Option (List ℕ)) (body : BodyTree) → above + externals_in body ≤ 255
    → HaveNumbers above (map brief (label_defined label ++ defined_by body))
label_has above None body h = body_has above body h
label_has above (Some label) body h = (tt, body_has above body h)

-- the externals that a line defines have numbers
pub have_numbers : (above : ℕ) (stmt : StmtTree) (defined : List Brief) → defined ≡ map brief (definitions_in stmt)
    → above + externals_in stmt.body ≤ 255 → HaveNumbers above defined
have_numbers above stmt defined is h = rw is (label_has above stmt.label stmt.body h)

-- a definition that clashes with none of two clashes with none of the first
no_clash_first : (x y : Option Definition) (d : Definition) → clashes (or_here x y) d ≡ false → clashes x d ≡ false
no_clash_first b y d h = grind arith

abbrev pub above_of : List LineTree → ℕ → List ℕ → Option Definition
above_of lines k name = option_map (λ d. d.1) (definition_of (take k lines) name)

-- what a line that repeats no name defines does not clash with the definitions above it
pub no_clash_in : (lines : List LineTree) (k : ℕ) (before ds : List Defined) (name : List ℕ) (d : Definition)
    → repeats_from lines k before ds ≡ false
    → found_in ds name ≡ Some d → clashes (above_of lines k name) d ≡ false
no_clash_in lines k before [] name d h f = absurd (cc f)
no_clash_in lines k before (e ∷ ds) name d h f =
    grind (arith, or_parts, bytes_eq-Decides, no_clash_first, no_clash_in lines k (before ++ e ∷ []) ds name d)

module _ (lines : List LineTree) (a : Assignment) (k : ℕ) (name : List ℕ) where
  -- the value by a definition and what the last SET gave
  abbrev value_with : Option Value → Option (ℕ × Definition) → Option Value
  value_with last (Some d) =
      value_by (here_at a d.0) (above lines a d.0) last (externals_before lines d.0) d.0 d.1
  value_with last None = None

  -- A line that defines a name gives it a value that does not depend on an earlier SET, and a SET of a name that SET
  -- defines above gives its value.
  grow : (last : Option Value) (d : Option (ℕ × Definition)) (f : Option Definition)
      → ((x : Definition) → f ≡ Some x → clashes (option_map (λ e. e.1) d) x ≡ false)
      → value_with (set_by (above lines a k) last f) (or_here d (option_map (at_line k) f))
      ≡ or_kept lines a k f (value_with last d)
  unfolding at_line
  grow last d None c = cc (or_none d)
  grow last d (Some x) c = grind (arith, c x refl)

  pub not_again : is_repeated lines k ≡ false → repeats_from lines k [] (line_definitions lines k) ≡ false
  unfolding is_repeated
  not_again h = (or_parts (repeats_a_name lines k) _ (or_parts _ _ h).0).0

  pub grown : (line : LineTree) → slice_get lines k ≡ Some line → is_repeated lines k ≡ false
      → value_above lines a (suc k) name ≡ or_kept lines a k (found_in (line_definitions lines k) name)
      (value_above lines a k name)
  unfolding value_above last_set
  grown line is h =
      let grows = grow (last_set lines a name k) (definition_of (take k lines) name)
      (found_in (line_definitions lines k) name) (λ x f. no_clash_in lines k [] _ name x (not_again h) f) in
      cc (defined_more lines k line name is, grows)

-- What names mean at a line by what the lines above it give, and with the label of the line; the form of a JMP or CALL
-- that follows.

-- a definition in a line below a bound
abbrev pub below : ℕ → Option (ℕ × Definition) → Option (ℕ × Definition)
below bound (Some d) = cond (nat_lt d.0 bound) (Some d) None
below bound None = None

none_below : (number bound : ℕ) (lines : List LineTree) (name : List ℕ) → bound ≤ number
    → below bound (definition_from number lines name) ≡ None
none_below number bound [] name h = refl
none_below number bound (l ∷ lines) name h = grind (arith, none_below (suc number) bound lines name (omega (arith, h)))

first_of_front : (lines : List LineTree) (number k bound : ℕ) (name : List ℕ) → number + k ≡ bound
    → definition_from number (take k lines) name ≡ below bound (definition_from number lines name)
first_of_front [] number zero bound name e = refl
first_of_front [] number (suc k) bound name e = refl
first_of_front (l ∷ lines) number zero bound name e = grind (arith, none_below)
first_of_front (l ∷ lines) number (suc k) bound name e =
    grind (arith, first_of_front lines (suc number) k bound name (omega (arith, e)))

pub front_of_text : (lines : List LineTree) (k : ℕ) (name : List ℕ)
    → definition_from 0 (take k lines) name ≡ below k (definition_from 0 lines name)
front_of_text lines k name = first_of_front lines 0 k k name (omega arith)

seen_by : (lines : List LineTree) (a : Assignment) (k : ℕ) (name : List ℕ) (o : Option (ℕ × Definition))
    → if_before k (named_value lines a k name o) o ≡ seen_value k (defined_value lines a k name (below k o))
    (undefined_value lines a k name) o
seen_by lines a k name b = grind arith

pub seen : (lines : List LineTree) (a : Assignment) → Fits lines a → (k : ℕ) (name : List ℕ)
    → value_before lines a k k name ≡ seen_value k (value_above lines a k name) (undefined_value lines a k name)
    (definition_of lines name)
unfolding value_above definition_of
seen lines a f k name =
    cc (f.values k name, seen_by lines a k name (definition_of lines name), front_of_text lines k name)

module _ (lines : List LineTree) (a : Assignment) (k : ℕ) (name : List ℕ) (u : Option Value) where
  seen_first : value_by_first u (value_above lines a k name) (value_above lines a k name)
      (option_map first_definition (definition_of lines name))
      ≡ seen_value k (value_above lines a k name) u (definition_of lines name)
  unfolding value_above definition_of
  seen_first = grind (arith, front_of_text)

-- by the values that the lines above a line give, names mean what they mean by the assignment
pub means : (lines : List LineTree) (a : Assignment) → Fits lines a
    → (k : ℕ) (segments : List SegmentEntry) (table : Table) (values : Valuation) (predefines : Bool) (bank : ℕ)
    (here : Located ℕ)
    → IsKeptOf lines a k segments table values predefines bank here
    → kept_meanings segments table values values predefines bank here ≡ above lines a k
unfolding above undefined_value
means lines a f k segments table values predefines bank here s =
    λ i. record {
      value = λ name. value_is name i;
      here = s.place i;
      fixed = λ id. is_absolute (s.types id i);
      bitaddressable = λ id. is_bitaddressable (s.types id i);
      number = λ id. 0;
    }
  where
    value_is : (name : List ℕ)
        → value_at table values values predefines bank name ≡ value_before lines a k k name
    value_is name =
        grind (arith, seen_first, seen lines a f k name, s.predefined, s.selected, s.known name, s.names name)

-- an instruction
abbrev pub is_code : BodyTree → Bool
is_code (Code mnemonic operands) = true
is_code body = false

-- only the form of an instruction depends on names
pub same_form : (m n : Meanings) (body : BodyTree) → (is_code body ≡ true → m ≡ n) → form_by m body ≡ form_by n body
same_form m n body h = grind arith

-- a label that does not clash is not defined above
fresh_label : (o : Option (ℕ × Definition)) → clashes (option_map (λ d. d.1) o) Label ≡ false → o ≡ None
fresh_label b h = grind arith

at_label : (k : ℕ) (b : Bool) → option_map (at_line k) (cond b (Some Label) None) ≡ cond b (Some (k, Label)) None
unfolding at_line
at_label k b = grind arith

-- what line k sees of a name with its own label, by the first definition d of the name in the text
seen_label : (named : Option (ℕ × Definition) → Option Value) (here : Value) (k : ℕ) (d : Option (ℕ × Definition))
    (b : Bool)
    → named (Some (k, Label)) ≡ Some here → (b ≡ true → below k d ≡ None)
    → below (suc k) d ≡ or_here (below k d) (cond b (Some (k, Label)) None)
    → if_before (suc k) (named d) d ≡ cond b (Some here) (if_before k (named d) d)
seen_label named here k b c h n e = grind arith

module _ (lines : List LineTree) (a : Assignment) (k : ℕ) (line : LineTree) (is : slice_get lines k ≡ Some line)
    (once : is_repeated lines k ≡ false) (code : is_code line.stmt.body ≡ true) where
  label_here : (name : List ℕ)
      → found_in (definitions_in line.stmt) name ≡ cond (is_label line.stmt.label name) (Some Label) None
  label_here name = grind arith

  not_above : (name : List ℕ) → is_label line.stmt.label name ≡ true → below k (definition_of lines name) ≡ None
  unfolding definition_of
  not_above name t =
      let found : found_in (line_definitions lines k) name ≡ Some Label = cc (is, label_here name, t) in
      sym (front_of_text lines k name) ∙ fresh_label (definition_of (take k lines) name)
      (no_clash_in lines k [] (line_definitions lines k) name Label (not_again lines a k name once) found)

  one_more : (name : List ℕ)
      → below (suc k) (definition_of lines name)
      ≡ or_here (below k (definition_of lines name)) (cond (is_label line.stmt.label name) (Some (k, Label)) None)
  unfolding definition_of
  one_more name =
      cc (
        front_of_text lines (suc k) name,
        defined_more lines k line name is,
        label_here name,
        at_label k (is_label line.stmt.label name),
        front_of_text lines k name,
      )

  down_value : Fits lines a → (name : List ℕ)
      → or_label (above lines a k) line.stmt.label name ≡ value_before lines a (suc k) k name
  unfolding above
  down_value f name =
      let labelled = seen_label (named_value lines a k name) (here_at a k) k (definition_of lines name)
      (is_label line.stmt.label name) refl (not_above name) (one_more name) in
      cc (f.values k name, labelled)

  down : Fits lines a → with_label (above lines a k) line.stmt.label ≡ down_to lines a k
  unfolding above down_to
  down f = grind (arith, down_value)

pub form_told : (lines : List LineTree) (a : Assignment) → Fits lines a → (k : ℕ) (line : LineTree)
    → slice_get lines k ≡ Some line
    → is_repeated lines k ≡ false
    → form_by (with_label (above lines a k) line.stmt.label) line.stmt.body ≡ a.form k
form_told lines a f k line is once =
    cc (same_form _ (down_to lines a k) line.stmt.body (λ code. down lines a k line is once code f), f.forms k)
