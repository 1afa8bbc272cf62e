-- Values do not depend on the numbers of segments: under a renumbering that keeps which segments are absolute, which
-- have bits with addresses, and which relocatable ones differ, an expression has the same value, with its base
-- renumbered. On the way, what holds of the bases and the parts of all names holds of those of each expression.
use Rattle.m51_asm.proofs
use Rattle.m51_asm.specs
use proofs.Common.{◌≡◌, ℕ, ◌+◌, ◌/◌, ◌%◌, ◌==◌, nat_lt, Bool, true, false, not, ◌&&◌, ◌||◌, cond, List, Option, Some}
use proofs.Common.{None, Ok, Err, refl, ap, sym, subst, Base, Kind, Part, Whole, High, Low, Value, Tree, Meanings}
use proofs.Common.{arith, Bit, ltb-false, zero, suc, ◌<◌, ◌≤◌, [], ◌∷◌, ◌++◌, length, option_map, ltb-true, BodyTree}
use proofs.Common.{LineTree, Assignment, body_at, here_at, Fits, TextSegment, bytes_eq, below_more, inl, inr}
use proofs.Common.{cases_Bool}
use Rattle.m51_expr.specs.Value.{Valued, plain, is_whole, fault, whole, part_value, bit_address}
use Rattle.m51_cells.specs.Outcome.{and_then}
use Rattle.m51_expr.specs.declared.fault.ExprError.{ExprError}
use Rattle.m51_expr.specs.declared.tree.Unary.{Unary}
use Rattle.m51_expr.specs.declared.tree.Binary.{Binary}
use Rattle.m51_expr.specs.Tree.{Number, Here, Name, One, Two}
use Rattle.m51_expr.specs.Meanings.{is_absolute_base, is_unplaced, as_number}
use Rattle.m51_expr.specs.Operators.{or_number, kept_under, settled, beside, same_base, arithmetic, class_of, unary}
use Rattle.m51_expr.specs.Operators.{on_base, of_wholes, of_settled}
use Rattle.m51_expr.specs.Bits.{has_bits, placed_bit, dotted_bit}
use Rattle.m51_expr.specs.Evaluation.{is_dot, or_unknown, value_of, applied}
use Rattle.m51_isa.specs.declared.generics.Verb.{Verb}
use Rattle.m51_encode.specs.JumpForm.{is_own, jump_form_of}
use specs.Renumbering.{SameBase, SameValue, SameValued, IsRenumbering, IsUnchanged}
use specs.Definitions.{Definition, Label, SegmentOf, EquOf, SetOf, AddressOf, ExternOf, label_defined, defined_by}
use specs.Definitions.{externals_from, found_in, or_later, definition_from, definition_of}
use specs.Assignment.{if_before, above, value_or_none}
use specs.Fitting.{set_by, register_or_predefined, externals_in, value_by, named_value, last_set, undefined_value}
use specs.Fitting.{externals_before, with_class}
use specs.ObjectSegments.{segment_of}
use proofs.KnownSegments.{Declares, known, two_more}
use Rattle.m51_encode.specs.FieldLaws.{IsBitOf}
use Rattle.m51_sfr.specs.Registers.{bits}
use Rattle.m51_cells.specs.declared.kind.Base.TheVariants as base
use Rattle.m51_expr.specs.declared.tree.Unary.TheVariants as op1
use Rattle.m51_expr.specs.declared.tree.Binary.TheVariants as op2
use Rattle.m51_stmt.specs.Statement as body

-- a number of a class, with a base and a part
abbrev at : ℕ → Kind → Base → Part → Value
at n c b p = record { number = n; class = c; base = b; part = p }

-- bases that are one but for the number of the segment, where the first is such a base
pub data Tied (Linked : ℕ → ℕ → Type 0) (G : Base → Type 0) : Base → Base → Type 0 where
  none : Tied Linked G base.None base.None
  segment : {s t : ℕ} → Linked s t → G (base.Segment s) → Tied Linked G (base.Segment s) (base.Segment t)
  external : {m : ℕ} → G (base.External m) → Tied Linked G (base.External m) (base.External m)

-- values that are one but for the number of the segment, of such a base and under such an operator
pub data Like (Linked : ℕ → ℕ → Type 0) (G : Base → Type 0) (B : Part → Type 0) : Value → Value → Type 0 where
  like : {n : ℕ} {c : Kind} {a b : Base} {p : Part} → Tied Linked G a b → B p
      → Like Linked G B (at n c a p) (at n c b p)

-- the same of values or faults
pub data Both (R : Value → Value → Type 0) : Valued Value → Valued Value → Type 0 where
  ok : {v w : Value} → R v w → Both R (Ok v) (Ok w)
  err : {e : ExprError} → Both R (Err e) (Err e)

-- values that are under no operator
data Plain (Linked : ℕ → ℕ → Type 0) (G : Base → Type 0) : Value → Value → Type 0 where
  flat : {n : ℕ} {c : Kind} {a b : Base} → Tied Linked G a b → Plain Linked G (whole n c a) (whole n c b)

-- two choices by one test
choose : {X : Type 0} (R : X → X → Type 0) {b d : Bool} {v w x y : X} → b ≡ d → R v w → R x y
    → R (cond b v x) (cond d w y)
choose R e s t = grind arith

by_test : {X : Type 0} (R : X → X → Type 0) (b : Bool) {v w x y : X} → (b ≡ true → R v w) → (b ≡ false → R x y)
    → R (cond b v x) (cond b w y)
by_test b c s t = grind arith

-- what holds of the names, of linked segments, of bases and of parts
pub record AreTied (names short : Meanings) (Linked : ℕ → ℕ → Type 0) (G : Base → Type 0) (B : Part → Type 0) : Type 0
  where
    pub fixed : {s t : ℕ} → Linked s t → names.fixed s ≡ short.fixed t
    pub bits : {s t : ℕ} → Linked s t → names.bitaddressable s ≡ short.bitaddressable t
    pub apart : {s t u v : ℕ} → Linked s t → Linked u v → (names.fixed s && names.fixed u) ≡ false
        → (s == u) ≡ (t == v)
    pub named : (name : List ℕ)
        → Both (Like Linked G B) (or_unknown (names.value name)) (or_unknown (short.value name))
    pub here : Like Linked G B names.here short.here
    pub whole : B Whole
    pub high : B High
    pub low : B Low
    pub bit : {k : ℕ} → nat_lt 7 k ≡ false → B (Bit k)

module _ {names short : Meanings} {Linked : ℕ → ℕ → Type 0} {G : Base → Type 0} {B : Part → Type 0}
    (r : AreTied names short Linked G B) where
  abbrev Bases : Base → Base → Type 0
  Bases = Tied Linked G

  abbrev Values : Value → Value → Type 0
  Values = Like Linked G B

  abbrev Results : Valued Value → Valued Value → Type 0
  Results = Both Values

  unplaced : {a b : Base} → Bases a b → is_unplaced names a ≡ is_unplaced short b
  unplaced b = grind arith

  absolute : {a b : Base} → Bases a b → is_absolute_base names a ≡ is_absolute_base short b
  absolute b = grind arith

  with_bits : {a b : Base} (c : Kind) → Bases a b → has_bits names a c ≡ has_bits short b c
  with_bits c b = grind arith

  has_base : {a b : Base} → Bases a b → same_base a base.None ≡ same_base b base.None
  has_base b = grind arith

  plainly : {n : ℕ} {c : Kind} → Values (plain n c) (plain n c)
  plainly = like none r.whole

  number : (n : ℕ) (p : Part) {a b : Base} → Bases a b
      → cond (is_unplaced names a) (fault 8) (Ok (part_value n p))
      ≡ cond (is_unplaced short b) (fault 8) (Ok (part_value n p))
  number n p t = cc (unplaced t)

  -- what follows from one number
  from : {m n : Valued ℕ} {f g : ℕ → Valued Value} → m ≡ n → ((k : ℕ) → Results (f k) (g k))
      → Results (and_then m f) (and_then n g)
  from {m} {n} e h = grind (arith, err)

  high_low : (part : Part) → B part → (f : ℕ → ℕ) (n : ℕ) (c : Kind) {a b : Base} → Bases a b → (p : Part) → B p
      → Results (or_number (kept_under part (at n c a p)) (as_number names (at n c a p)) f)
      (or_number (kept_under part (at n c b p)) (as_number short (at n c b p)) f)
  high_low part h f n c t p q = grind (arith, ok, plainly, like, segment, external, err, from, number)

  under_one : (op : Unary) {v w : Value} → Values v w → Results (unary names op v) (unary short op w)
  under_one op1.High (like {n} {c} {p = p} t q) = high_low High r.high (λ n. n / 256) n c t p q
  under_one op1.Low (like {n} {c} {p = p} t q) = high_low Low r.low (λ n. n % 256) n c t p q
  under_one op (like {n} {p = p} t q) = from (number n p t) (λ k. ok plainly)

  -- an absolute base falls away beside a relocatable or external one
  both_beside : {o p a b : Base} (n : ℕ) (c : Kind) → Bases o p → Bases a b
      → Plain Linked G (beside names o (whole n c a)) (beside short p (whole n c b))
  both_beside n c t s = choose (Plain Linked G) (λ i. unplaced t i && absolute s i) (flat none) (flat s)

  -- a difference in which the bases fall away by the tests, or count as numbers
  drops : (class : Kind) (a m n : Valued ℕ) (b d : Bool) → cond b a m ≡ cond d a n
      → Results (on_base class (cond b (Some base.None) None) a m) (on_base class (cond d (Some base.None) None) a n)
  drops class a m n b d e = grind (arith, from, ok, plainly)

  wholes : (op : Binary) (class : Kind) {v w x y : Value} → Plain Linked G v w → Plain Linked G x y
      → Results (of_wholes names op class v x) (of_wholes short op class w y)
  wholes op2.Add class (flat t) (flat none) = ok (like t r.whole)
  wholes op2.Add class (flat none) (flat s) = ok (like s r.whole)
  wholes op2.Sub class (flat t) (flat none) = ok (like t r.whole)
  wholes op2.Sub class (flat {n} (segment {s} {t} h g)) (flat {n = m} (segment {s = u} {t = v} k f)) =
      grind (arith, drops)
  wholes op2.Sub class (flat (external {m = s} g)) (flat (external {m = u} f)) =
      drops class _ _ _ (s == u) (s == u) refl
  wholes op class (flat {n} t) (flat {n = m} s) =
      from {f = λ k. Ok (plain k class)} {g = λ k. Ok (plain k class)}
      (λ i. and_then (number n Whole t i) (λ a. and_then (number m Whole s i) (λ b. arithmetic op a b)))
      (λ k. ok plainly)

  both_settled : {v w : Value} → Values v w → Values (settled names v) (settled short w)
  both_settled (like {p = p} t q) = choose Values (λ i. unplaced t i || is_whole p) (like t q) plainly

  of_settled_same : (op : Binary) (class : Kind) {v w x y : Value} → Values v w → Values x y
      → Results (of_settled names op class v x) (of_settled short op class w y)
  of_settled_same op class (like {n} {c} {p = Whole} t q) (like {n = m} {c = d} {p = Whole} s z) =
      wholes op class (both_beside n c s t) (both_beside m d t s)
  of_settled_same op class (like t q) (like s z) = err

  -- a bit, which keeps its base or has an address
  placed : {v w : Value} (k : ℕ) (o : Option ℕ) → nat_lt 7 k ≡ false → Values v w
      → Results (placed_bit v k o) (placed_bit w k o)
  placed k b h l = grind (arith, err, ok, choose, has_base, like, plainly)

  dotted : {v w : Value} (k : ℕ) → Values v w → Results (dotted_bit names v k) (dotted_bit short w k)
  dotted k (like {n} {c} {p = p} t q) =
      by_test Results (nat_lt 7 k) (λ h. err)
      (λ h. choose Results (unplaced t) (choose Results (with_bits c t) (ok (like t (r.bit h))) err)
      (placed k (bit_address (part_value n p) k) h (like {c = c} t q)))

  both_applied : (op : Binary) {v w x y : Value} → Values v w → Values x y
      → Results (applied names op v x) (applied short op w y)
  both_applied op (like {c = c} {p = p} t q) (like {n = m} {c = d} {p = z} s y) =
      choose Results {b = is_dot op} refl
      (choose Results (λ i. unplaced t i && not (is_whole p)) err (from (number m z s) (λ k. dotted k (like t q))))
      (of_settled_same op (class_of op c d) (both_settled (like t q)) (both_settled (like s y)))

  follow : {m n : Valued Value} {f g : Value → Valued Value} → Results m n → ((v w : Value) → Values v w
      → Results (f v) (g w))
      → Results (and_then m f) (and_then n g)
  follow b h = grind arith

  -- the value of an expression
  pub value_like : (tree : Tree) → Results (value_of names tree) (value_of short tree)
  unfolding value_of
  value_like (Number n) = ok plainly
  value_like Here = ok r.here
  value_like (Name name) = r.named name
  value_like (One op e) = follow (value_like e) (λ v w l. under_one op l)
  value_like (Two op e f) = follow (value_like e) (λ v w l. follow (value_like f) (λ x y m. both_applied op l m))

-- a renumbering says nothing of bases and parts
abbrev Any : {X : Type 0} → X → Type 0
Any x = Unit {0}

module _ (names short : Meanings) (Linked : ℕ → ℕ → Type 0) (r : IsRenumbering names short Linked) where
  tied_any : (a b : Base) → SameBase Linked a b → Tied Linked Any a b
  tied_any a b h = grind (arith, none, segment, external)

  same_base_of : {a b : Base} → Tied Linked Any a b → SameBase Linked a b
  same_base_of b = grind arith

  alike : {v w : Value} → SameValue Linked v w → Like Linked Any Any v w
  alike {v} {w} s = subst (Like Linked Any Any v) (sym s.is) (like (tied_any v.base w.base s.base) tt)

  given : (m n : Valued Value) → SameValued Linked m n → Both (Like Linked Any Any) m n
  given m n s = grind (arith, ok, alike, err)

  back : {m n : Valued Value} → Both (Like Linked Any Any) m n → SameValued Linked m n
  back b = grind (arith, same_base_of)

  all_tied : AreTied names short Linked Any Any
  all_tied = record {
    fixed = λ h. r.fixed _ _ h;
    bits = λ h. r.bits _ _ h;
    apart = λ h k e. r.apart _ _ _ _ h k e;
    named = λ name. given (or_unknown (names.value name)) (or_unknown (short.value name)) (r.named name);
    here = alike r.here;
    whole = tt;
    high = tt;
    low = tt;
    bit = λ h. tt;
  }

  own : {a b : Base} → Tied Linked Any a b → is_own names a ≡ is_own short b
  own b = grind arith

  form_same : (verb : Verb) {m n : Valued Value} → Both (Like Linked Any Any) m n
      → jump_form_of names verb m ≡ jump_form_of short verb n
  unfolding jump_form_of
  form_same verb (ok (like t q)) = cc (own t, own none, ap (λ (v : Value). v.number) r.here.is)
  form_same verb err = refl

  pub unchanged : (tree : Tree) → IsUnchanged names short Linked tree
  unchanged tree = record {
    value = back (value_like all_tied tree);
    form = λ verb. form_same verb (value_like all_tied tree);
  }

-- What holds of the bases that names and the place of a statement have, and of the numbers of their bits, holds of the
-- value of each expression. So the names of a text count only from segments of the text and externals that it declares.

-- a value of such a base, under no bit above 7
pub record IsBased (G : Base → Type 0) (v : Value) : Type 0 where
  pub base_is : G v.base
  pub bit_is : IsBitOf v.part

-- the value of a result, if there is one
abbrev pub IfBased : (Base → Type 0) → Valued Value → Type 0
IfBased G (Ok v) = IsBased G v
IfBased G (Err e) = Unit {0}

-- the value of an option, if there is one
abbrev pub IfSomeBased : (Base → Type 0) → Option Value → Type 0
IfSomeBased G None = Unit {0}
IfSomeBased G (Some v) = IsBased G v

-- names and the place of a statement have such values
pub record AreBased (G : Base → Type 0) (names : Meanings) : Type 0 where
  pub value : (name : List ℕ) → IfSomeBased G (names.value name)
  pub here : IsBased G names.here

module _ (G : Base → Type 0) (no_base : G base.None) where
  abbrev Stays : Value → Value → Type 0
  Stays = Like ◌≡◌ G IsBitOf

  tied : (b : Base) → G b → Tied ◌≡◌ G b b
  tied b g = grind (arith, none, segment, external)

  stays : {v : Value} → IsBased G v → Stays v v
  stays {v} h = like (tied v.base h.base_is) h.bit_is

  base_of : {a b : Base} → Tied ◌≡◌ G a b → G a
  base_of t = grind (arith, no_base)

  based : {r q : Valued Value} → Both Stays r q → IfBased G r
  based (ok (like t h)) = record { base_is = base_of t; bit_is = h }
  based err = tt

  named : (o : Option Value) → IfSomeBased G o → Both Stays (or_unknown o) (or_unknown o)
  named None h = err
  named (Some v) h = ok (stays h)

  -- the value of an expression
  pub value_based : (names : Meanings) → AreBased G names → (e : Tree) → IfBased G (value_of names e)
  value_based names are e = based (value_like all e)
    where
      all : AreTied names names ◌≡◌ G IsBitOf
      all = record {
        fixed = λ h. ap names.fixed h;
        bits = λ h. ap names.bitaddressable h;
        apart = λ h k e i. h i == k i;
        named = λ name. named (names.value name) (are.value name);
        here = stays are.here;
        whole = λ b e. cc e;
        high = λ b e. cc e;
        low = λ b e. cc e;
        bit = λ {k} h b e. let same : k ≡ b = cc e in let most = ltb-false 7 k h in omega arith;
      }

-- what a line says of a definition that is its own: the number of an external is below the count, and a segment is
-- declared
abbrev IsFrom : BodyTree → Definition → Type 0
IsFrom b (ExternOf kind m) = m < externals_in b
IsFrom b (SegmentOf kind) = Declares b kind
IsFrom b d = Unit {0}

abbrev IfFrom : BodyTree → Option Definition → Type 0
IfFrom b None = Unit {0}
IfFrom b (Some d) = IsFrom b d

if_found : (b : BodyTree) (test : Bool) (d : Definition) (o : Option Definition) → IsFrom b d → IfFrom b o
    → IfFrom b (cond test (Some d) o)
if_found b test d o h k = grind arith

externals_below : (b : BodyTree) (xs : List (List ℕ × Kind)) (from : ℕ) (name : List ℕ)
    → externals_in b ≡ from + length xs → IfFrom b (found_in (externals_from from xs) name)
externals_below b [] from name e = tt
externals_below b (x ∷ xs) from name e =
    if_found b _ _ _ (omega arith) (externals_below b xs (suc from) name (omega arith))

body_from : (b : BodyTree) (name : List ℕ) → IfFrom b (found_in (defined_by b) name)
body_from (body.Segment t kind type overlayable) name =
    let declares : Declares (body.Segment t kind type overlayable) kind =
    record { name = t; type = type; overlayable = overlayable; is = refl } in
    if_found (body.Segment t kind type overlayable) (bytes_eq name t) (SegmentOf kind) None declares tt
body_from (body.Extrn xs) name = externals_below (body.Extrn xs) xs 0 name (omega arith)
body_from b name = grind (arith, if_found)

line_from : (label : Option (List ℕ)) (b : BodyTree) (name : List ℕ)
    → IfFrom b (found_in (label_defined label ++ defined_by b) name)
line_from None b name = body_from b name
line_from (Some t) b name = if_found b _ Label _ tt (body_from b name)

-- a definition in one of these lines
record IsIn (ls : List LineTree) (n line : ℕ) (d : Definition) : Type 0 where
  index : ℕ
  at : line ≡ n + index
  inside : index < length ls
  from : IsFrom (body_at ls index) d

abbrev IfIn : List LineTree → ℕ → Option (ℕ × Definition) → Type 0
IfIn ls n None = Unit {0}
IfIn ls n (Some (line, d)) = IsIn ls n line d

in_lines : (ls : List LineTree) (n : ℕ) (name : List ℕ) → IfIn ls n (definition_from n ls name)
in_lines [] n name = tt
in_lines (l ∷ ls) n name =
    first _ _ (line_from l.stmt.label l.stmt.body name) (in_lines ls (suc n) name)
  where
    first : (f : Option Definition) (o : Option (ℕ × Definition)) → IfFrom l.stmt.body f
        → IfIn ls (suc n) o → IfIn (l ∷ ls) n (or_later n f o)
    first (Some d) o h k = record { index = 0; at = omega arith; inside = omega arith; from = h }
    first None None h k = tt
    first None (Some (line, d)) h k =
        record { index = suc k.index; at = omega arith; inside = omega arith; from = k.from }

-- a segment in a base is one of the text, and an external is declared
abbrev pub IsDeclaredBase : List LineTree → Assignment → Base → Type 0
IsDeclaredBase lines a (base.Segment id) = (segment_of lines a id).id ≡ id
IsDeclaredBase lines a (base.External e) = (1 ≤ e) × (e ≤ externals_before lines (length lines))
IsDeclaredBase lines a base.None = Unit {0}

-- the externals of a line are among those of the lines above a later one
externals_up : (lines : List LineTree) (n j : ℕ) → j < n
    → externals_before lines j + externals_in (body_at lines j) ≤ externals_before lines n
unfolding externals_before
externals_up lines zero j h = absurd (omega arith)
externals_up lines (suc n) j h =
    below_more (λ j. externals_before lines j + externals_in (body_at lines j) ≤ externals_before lines (suc n)) n
    (λ j l. let up = externals_up lines n j l in omega arith) (omega arith) j (omega arith)

module _ (lines : List LineTree) (a : Assignment) (f : Fits lines a) where
  abbrev D : Base → Type 0
  D = IsDeclaredBase lines a

  abbrev Good : Option Value → Type 0
  Good = IfSomeBased D

  good : {n : ℕ} {k : Kind} {b : Base} → D b → IsBased D (whole n k b)
  good d = record { base_is = d; bit_is = λ i e. absurd (cc e) }

  -- the place of a line counts from a segment of the text
  pub place_good : (k : ℕ) → IsBased D (here_at a k)
  place_good k = good (ap (λ (s : TextSegment). s.id) (known lines a f k).same)

  declared_good : (d : ℕ) (kind : Kind) → Declares (body_at lines d) kind → (segment_of lines a (d + 2)).id ≡ d + 2
  declared_good d kind declares = rw (two_more d, declares.is) (two_more d)

  tree_good : (k : ℕ) (e : Tree) → AreBased D (above lines a k) → Good (value_or_none (value_of (above lines a k) e))
  tree_good k e are = let based = value_based D tt (above lines a k) are e in grind (arith, based)

  classed : (kind : Kind) (o : Option Value) → Good o → Good (option_map (with_class kind) o)
  classed kind o h = grind arith

  -- names above each line have such values
  abbrev AllAbove : ℕ → Type 0
  AllAbove k = (j : ℕ) → j < k → AreBased D (above lines a j)

  set_good : (k : ℕ) (o : Option Definition) (last : Option Value) → AreBased D (above lines a k) → Good last
      → Good (set_by (above lines a k) last o)
  set_good k (Some (SetOf e)) last are h = tree_good k e are
  set_good k o last are h = h

  last_good : (name : List ℕ) (k : ℕ) → AllAbove k → Good (last_set lines a name k)
  unfolding last_set
  last_good name zero all = tt
  last_good name (suc k) all =
      set_good k _ _ (all k (omega arith)) (last_good name k (λ j less. all j (omega arith)))

  defined_good : (k : ℕ) (name : List ℕ) (d : ℕ) (h : Definition) → IsIn lines 0 d h → AllAbove k
      → AreBased D (above lines a d)
      → Good (value_by (here_at a d) (above lines a d) (last_set lines a name k) (externals_before lines d) d h)
  defined_good k name d Label i all are = place_good d
  defined_good k name d (SegmentOf kind) i all are =
      let e : i.index ≡ d = omega arith in good (declared_good d kind (rw e at i.from))
  defined_good k name d (EquOf e) i all are = tree_good d e are
  defined_good k name d (SetOf e) i all are = last_good name k all
  defined_good k name d (AddressOf kind e) i all are =
      classed kind _ (tree_good d e are)
  defined_good k name d (ExternOf kind m) i all are =
      let e : i.index ≡ d = omega arith in
      let up = externals_up lines (length lines) i.index i.inside in
      good (omega arith, omega (arith, up, i.from, ap (externals_before lines) e))

  register_good : (on : Bool) (bank : ℕ) (name : List ℕ) (o : Option ℕ) → Good (register_or_predefined on bank name o)
  register_good on bank name o = grind (arith, good)

  undefined_good : (k : ℕ) (name : List ℕ) → Good (undefined_value lines a k name)
  unfolding undefined_value
  undefined_good k name = register_good _ _ name _

  before_good : (k : ℕ) (name : List ℕ) (o : Option (ℕ × Definition)) → IfIn lines 0 o → AllAbove k
      → Good (if_before k (named_value lines a k name o) o)
  before_good k name None i all = undefined_good k name
  before_good k name (Some (d, h)) i all =
      elim (cases_Bool (nat_lt d k)) [
        | inl t ↦ rw t (defined_good k name d h i all (all d (ltb-true d k t)))
        | inr t ↦ rw t tt
      ]

  above_good : (k : ℕ) → AllAbove k → AreBased D (above lines a k)
  unfolding above definition_of
  above_good k all = record {
    value = λ name. rw f.values (before_good k name (definition_of lines name) (in_lines lines 0 name) all);
    here = place_good k;
  }

  all_good : (k : ℕ) → AllAbove k
  all_good zero j less = absurd (omega arith)
  all_good (suc k) j less = below_more (λ j. AreBased D (above lines a j)) k (all_good k) (above_good k (all_good k)) j
      (omega arith)

  named_good : (k : ℕ) (name : List ℕ) (o : Option (ℕ × Definition)) → IfIn lines 0 o
      → Good (named_value lines a k name o)
  named_good k name None i = undefined_good k name
  named_good k name (Some (d, h)) i = defined_good k name d h i (all_good k) (all_good (suc d) d (omega arith))

  -- each name of the text has such a value
  pub name_good : (k : ℕ) (name : List ℕ) → IfSomeBased (IsDeclaredBase lines a) (a.value k name)
  unfolding definition_of
  name_good k name = rw f.values (named_good k name (definition_of lines name) (in_lines lines 0 name))
