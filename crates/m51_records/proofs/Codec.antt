-- A field and a record as codecs: how it is read, how it is written, and that the one takes back the other. A record is
-- its fields, one after another, each of which may depend on those before it.
use Rattle.std.proofs.Common.{◌≡◌, ℕ, Bool, true, List, [], ◌∷◌, ◌++◌, Option, Some, Result, Ok, refl, sym, ap, subst}
use Rattle.std.proofs.Common.{◌∙◌, arith}
use Rattle.std.proofs.lemmas.List.{append-nil}
use Rattle.m51_module.specs.declared.object_error.ObjError.{ObjError}
use Rattle.m51_module.specs.Validity.{numbered}
use Rattle.m51_frame.specs.Fields.{◌>>=◌, checked, or_broken, or_absent, byte_at, pair, pair_at, text_field, text_at}
use Rattle.m51_frame.specs.Fields.{upper_name, ended}
use Rattle.m51_cells.specs.Name.{IsWritten}
use Rattle.m51_records.proofs.Tools.{on_ok, ok_is, checked_ok, broken_ok, absent_ok, ended_ok}
use Rattle.m51_records.proofs.FieldLaws.{IsBytes, fit_back, pair_read, pair_takes, text_read, text_takes, upper_takes}
use Rattle.m51_records.proofs.FieldLaws.{upper_read}

-- a field: what is read is a value and the bytes after it
pub record Codec (A : Type 0) : Type 1 where
  pub good : A → Type 0
  pub write : A → List ℕ
  pub read : ℕ → List ℕ → Result (A × List ℕ) ObjError
  pub again : (end : ℕ) (a : A) (rest : List ℕ) → good a → read end (write a ++ rest) ≡ Ok (a, rest)
  pub takes : (end : ℕ) (bytes : List ℕ) (y : A × List ℕ) → IsBytes bytes → read end bytes ≡ Ok y
      → (bytes ≡ write y.0 ++ y.1) × good y.0

-- a reader of all contents of a record, and what is written: each takes back the other where the value is good
pub record Agrees {A : Type 0} (read : ℕ → List ℕ → Result A ObjError) (write : A → List ℕ) (good : A → Type 0)
    : Type 0 where
  pub again : (end : ℕ) (a : A) → good a → read end (write a) ≡ Ok a
  pub takes : (end : ℕ) (bytes : List ℕ) (a : A) → IsBytes bytes → read end bytes ≡ Ok a
      → (bytes ≡ write a) × good a

-- the fields from one on to the end of a record of S, which is made of their values
pub record Fields (S A : Type 0) : Type 1 where
  pub good : A → Type 0
  pub write : A → List ℕ
  pub read : (A → S) → ℕ → List ℕ → Result S ObjError
  pub again : (make : A → S) (end : ℕ) (a : A) → good a → read make end (write a) ≡ Ok (make a)
  pub takes : (make : A → S) (end : ℕ) (bytes : List ℕ) (s : S) → IsBytes bytes → read make end bytes ≡ Ok s
      → (a : A) × (make a ≡ s) × (bytes ≡ write a) × good a

-- ---- records

module _ {S : Type 0} where
  -- a field, and those after it, which depend on it
  abbrev pub then_fields : {A B : Type 0} → Codec A → (A → Fields S B) → Fields S (A × B)
  then_fields one next = record {
    good = λ y. one.good y.0 × (next y.0).good y.1;
    write = λ y. one.write y.0 ++ (next y.0).write y.1;
    read = λ make end bytes. one.read end bytes >>= λ x. (next x.0).read (λ b. make (x.0, b)) end x.1;
    again = λ make end y g. rw (one.again end y.0 ((next y.0).write y.1) g.0)
        ((next y.0).again (λ b. make (y.0, b)) end y.1 g.1);
    takes = λ make end bytes s fits e. on_ok (one.read end bytes) _ s _ (λ x e1 h1.
        let p = one.takes end bytes x fits e1 in
        let q = (next x.0).takes (λ b. make (x.0, b)) end x.1 s
        (fit_back (one.write x.0) x.1 (subst IsBytes p.0 fits)) h1 in
        ((x.0, q.0), q.1, p.0 ∙ ap (λ (t : List ℕ). one.write x.0 ++ t) q.2, (p.1, q.3))) e;
  }

  -- a test before the first field
  abbrev pub if_fields : {A : Type 0} → Bool → Fields S A → Fields S A
  if_fields test f = record {
    good = λ a. (test ≡ true) × f.good a;
    write = f.write;
    read = λ make end bytes. checked test end bytes bytes >>= λ all. f.read make end all;
    again = λ make end a g. rw g.0 (f.again make end a g.1);
    takes = λ make end bytes s fits e. on_ok (checked test end bytes bytes) _ s _ (λ all e1 h1.
        let c = checked_ok test end bytes bytes all e1 in
        let q = f.takes make end bytes s fits (ap (f.read make end) c.1 ∙ h1) in
        (q.0, q.1, q.2, (c.0, q.3))) e;
  }

  -- the last field has all bytes that are left
  abbrev pub last_field : {A : Type 0} {read : ℕ → List ℕ → Result A ObjError} {write : A → List ℕ} {good : A → Type 0}
      → Agrees read write good → Fields S A
  last_field {A} {read} {write} {good} laws = record {
    good = good;
    write = write;
    read = λ make end bytes. read end bytes >>= λ a. Ok (make a);
    again = λ make end a g. rw (laws.again end a g) refl;
    takes = λ make end bytes s fits e. on_ok (read end bytes) _ s _ (λ a e1 h1.
        let p = laws.takes end bytes a fits e1 in
        (a, ok_is (make a) s h1, p.0, p.1)) e;
  }

  -- no field is left
  abbrev pub no_field : Fields S (Unit {0})
  no_field = record {
    good = λ a. Unit {0};
    write = λ a. [];
    read = λ make end bytes. ended end bytes (make tt);
    again = λ make end a g. refl;
    takes = λ make end bytes s fits e. let d = ended_ok end bytes (make tt) s e in (tt, d.1, d.0, tt);
  }

  -- a record of these fields
  pub record_agrees : {A : Type 0} (f : Fields S A) (make : A → S) (write : S → List ℕ) (good : S → Type 0)
      → ((a : A) → f.good a → (f.write a ≡ write (make a)) × good (make a))
      → ((s : S) → good s → (a : A) × (make a ≡ s) × f.good a) → Agrees (f.read make) write good
  record_agrees f make write good to from = record {
    again = λ end s g.
        let p = from s g in
        subst (λ s. f.read make end (write s) ≡ Ok s) p.1
        (ap (f.read make end) (sym (to p.0 p.2).0) ∙ f.again make end p.0 p.2);
    takes = λ end bytes s fits e.
        let q = f.takes make end bytes s fits e in
        let t = to q.0 q.3 in
        subst (λ s. (bytes ≡ write s) × good s) q.1 (q.2 ∙ t.0, t.1);
  }

-- ---- fields

-- a field of which any value is good
pub record Plain (A : Type 0) : Type 1 where
  pub write : A → List ℕ
  pub read : ℕ → List ℕ → Result (A × List ℕ) ObjError
  pub again : (end : ℕ) (a : A) (rest : List ℕ) → read end (write a ++ rest) ≡ Ok (a, rest)
  pub takes : (end : ℕ) (bytes : List ℕ) (y : A × List ℕ) → IsBytes bytes → read end bytes ≡ Ok y
      → bytes ≡ write y.0 ++ y.1

pub byte_takes : (end : ℕ) (bytes : List ℕ) (y : ℕ × List ℕ) → byte_at end bytes ≡ Ok y → bytes ≡ y.0 ∷ y.1
byte_takes end bytes y e = grind arith

abbrev plain_byte : Plain ℕ
plain_byte = record {
  write = λ n. n ∷ [];
  read = byte_at;
  again = λ end n rest. refl;
  takes = λ end bytes y fits e. byte_takes end bytes y e;
}

abbrev plain_pair : Plain ℕ
plain_pair = record {
  write = pair;
  read = pair_at;
  again = pair_read;
  takes = λ end bytes y fits e. (pair_takes end bytes y fits e).0;
}

abbrev plain_text : Plain (List ℕ)
plain_text = record {
  write = text_field;
  read = text_at;
  again = text_read;
  takes = λ end bytes y fits e. text_takes end bytes y e;
}

-- a field that passes a test
abbrev tested : {A : Type 0} → Plain A → (A → Bool) → Codec A
tested one test = record {
  good = λ a. test a ≡ true;
  write = one.write;
  read = λ end bytes. one.read end bytes >>= λ y. checked (test y.0) end bytes y;
  again = λ end a rest g. rw (one.again end a rest, g) refl;
  takes = λ end bytes y fits e. on_ok (one.read end bytes) _ y _ (λ x e1 h1.
      let c = checked_ok (test x.0) end bytes x y h1 in
      rw (← c.1) (one.takes end bytes x fits e1, c.0)) e;
}

-- a byte, a number of two bytes, a text
abbrev pub tested_codec : (ℕ → Bool) → Codec ℕ
tested_codec = tested plain_byte

abbrev pub pair_codec : (ℕ → Bool) → Codec ℕ
pair_codec = tested plain_pair

abbrev pub text_codec : (List ℕ → Bool) → Codec (List ℕ)
text_codec = tested plain_text

-- a number of two bytes, any
abbrev pub any_pair : Codec ℕ
any_pair = record {
  good = λ n. Unit {0};
  write = pair;
  read = pair_at;
  again = λ end n rest g. pair_read end n rest;
  takes = λ end bytes y fits e. ((pair_takes end bytes y fits e).0, tt);
}

-- what a table gives for a field, which passes a test
abbrev tabled : {A B : Type 0} → Plain A → (number : B → A) (of : A → Option B) (test : B → Bool) (good : B → Type 0)
    → ((b : B) → good b → (of (number b) ≡ Some b) × (test b ≡ true))
    → ((a : A) (b : B) → of a ≡ Some b → test b ≡ true → (a ≡ number b) × good b) → Codec B
tabled one number of test good there back = record {
  good = good;
  write = λ b. one.write (number b);
  read = λ end bytes. one.read end bytes >>= λ n. or_broken (of n.0) end bytes >>= λ b.
      checked (test b) end bytes (b, n.1);
  again = λ end b rest g. rw (one.again end (number b) rest, (there b g).0, (there b g).1) refl;
  takes = λ end bytes y fits e. on_ok (one.read end bytes) _ y _ (λ n e1 h1.
      on_ok (or_broken (of n.0) end bytes) _ y _ (λ b e2 h2.
      let c = checked_ok (test b) end bytes (b, n.1) y h2 in
      let k = back n.0 b (broken_ok (of n.0) end bytes b e2) c.0 in
      rw (← c.1) (one.takes end bytes n fits e1 ∙ ap (λ a. one.write a ++ n.1) k.0, k.1)) h1) e;
}

-- a byte of a table, which passes a test
abbrev pub table_codec : {A : Type 0} (number : A → ℕ) (of : ℕ → Option A) (test : A → Bool)
    → ((a : A) → of (number a) ≡ Some a) → ((n : ℕ) (a : A) → of n ≡ Some a → n ≡ number a) → Codec A
table_codec number of test there back =
    tabled plain_byte number of test (λ a. test a ≡ true) (λ a g. (there a, g)) (λ n a e g. (back n a e, g))

-- a name in upper case
abbrev pub written_name : Codec (List ℕ)
written_name = tabled plain_text (λ name. name) upper_name (λ name. true) IsWritten
    (λ name g. (upper_read name g, refl)) (λ text name e g. upper_takes text name e)

-- the number of an item, which passes a test, and what is kept of both
module _ {X V : Type 0} (items : List X) (test : ℕ → X → Bool) (value : ℕ → X → V) (number : V → ℕ)
    (back : (n : ℕ) (x : X) → number (value n x) ≡ n) where
  pub record IsNumbered (v : V) : Type 0 where
    pub item : X
    pub is : numbered items (number v) ≡ Some item
    pub passes : test (number v) item ≡ true
    pub kept : value (number v) item ≡ v

  abbrev pub numbered_codec : Codec V
  numbered_codec = record {
    good = IsNumbered;
    write = λ v. number v ∷ [];
    read = λ end bytes. byte_at end bytes >>= λ n. or_absent (numbered items n.0) end bytes >>= λ x.
        checked (test n.0 x) end bytes (value n.0 x, n.1);
    again = λ end v rest g. rw (g.is, g.passes, g.kept) refl;
    takes = λ end bytes y fits e. on_ok (byte_at end bytes) _ y _ (λ n e1 h1.
        on_ok (or_absent (numbered items n.0) end bytes) _ y _ (λ x e2 h2.
        let c = checked_ok (test n.0 x) end bytes (value n.0 x, n.1) y h2 in
        let same = back n.0 x in
        rw (← c.1) (
          rw same (byte_takes end bytes n e1),
          record {
            item = x;
            is = rw same (absent_ok (numbered items n.0) end bytes x e2);
            passes = rw same c.0;
            kept = rw same refl;
          },
        )) h1) e;
  }

-- the last field is a name that is tested twice: by a table, and by those before it
module _ (table : List ℕ → Option (List ℕ)) (test : List ℕ → Bool)
    (itself : (text name : List ℕ) → table text ≡ Some name → text ≡ name) where
  pub name_agrees : Agrees
      (λ end bytes. text_at end bytes >>= λ text. or_broken (table text.0) end bytes >>= λ name. checked
      (test name) end bytes name >>= λ new. ended end text.1 new) text_field
      (λ name. (table name ≡ Some name) × (test name ≡ true))
  name_agrees = record {
    again = λ end name g.
        let read : text_at end (text_field name) ≡ Ok (name, []) = ap (text_at end) (sym (append-nil (text_field name)))
        ∙ text_read end name [] in
        rw (read, g.0, g.1) refl;
    takes = λ end bytes name fits e. on_ok (text_at end bytes) _ name _ (λ text e1 h1.
        on_ok (or_broken (table text.0) end bytes) _ name _ (λ n e2 h2.
        on_ok (checked (test n) end bytes n) _ name _ (λ new e3 h3.
        let d = checked_ok (test n) end bytes n new e3 in
        let f = ended_ok end text.1 new name h3 in
        let written = broken_ok (table text.0) end bytes n e2 in
        let same = itself text.0 n written in
        let all : bytes ≡ text_field text.0 =
        cc (text_takes end bytes text e1, f.0, append-nil (text_field text.0)) in
        rw (← f.1, ← d.1) (rw same at all, (rw same at written, d.0))) h2) h1) e;
  }
