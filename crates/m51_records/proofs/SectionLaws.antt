-- Records of one type: what is read is written so, and what is written is read again.
use Rattle.std.proofs.Common.{◌≡◌, inl, inr, ℕ, zero, suc, ◌+◌, ◌≤◌, false, eqb, List, [], ◌∷◌, ◌++◌, length, Ok, refl}
use Rattle.std.proofs.Common.{sym, ap, subst, ◌∙◌, append_assoc, arith, length-append, Result}
use Rattle.std.specs.List.{flat_map}
use Rattle.std.proofs.lemmas.Bool.{cases_Bool, eq-eqb}
use Rattle.std.proofs.lemmas.List.{append-nil}
use Rattle.m51_frame.specs.Fields.{◌>>=◌}
use Rattle.m51_frame.specs.Frame.{checksum_of, checksummed_bytes, record_of, begins, record_at, checksum_place}
use Rattle.m51_records.specs.Reading.{Reader, one_at, many_at, all_at}
use Rattle.m51_records.proofs.Tools.{on_ok, ok_is, done}
use Rattle.m51_records.proofs.Codec.{Agrees}
use Rattle.m51_records.proofs.FieldLaws.{IsBytes, fit_front, fit_back}
use Rattle.m51_records.proofs.FrameLaws.{record_takes, record_again}
use Rattle.m51_records.proofs.InTurn.{InTurn}
use Rattle.m51_module.specs.declared.object_error.ObjError.{ObjError}

-- a prefix and a rest that begins with the middle
pub joined : (bytes front rest middle after : List ℕ) → bytes ≡ front ++ rest → rest ≡ middle ++ after
    → bytes ≡ (front ++ middle) ++ after
joined bytes front rest middle after h k = cc (h, k, append_assoc front middle after)

-- what is shown of a record that was read
pub record TakesOne {X : Type 0} (type : ℕ) (contents : X → List ℕ) (Good : X → Type 0) (bytes : List ℕ)
    (y : X × List ℕ) : Type 0 where
  pub bytes_are : bytes ≡ record_of type (contents y.0) ++ y.1
  pub rest_fits : IsBytes y.1
  pub good : Good y.0

pub one_takes : {X : Type 0} (type : ℕ) {read : Reader X} {contents : X → List ℕ} {Good : X → Type 0} (total number : ℕ)
    (bytes : List ℕ) (y : X × List ℕ) → Agrees read contents Good → IsBytes bytes
    → one_at type read total number bytes ≡ Ok y → TakesOne type contents Good bytes y
unfolding one_at
one_takes type {read} {contents} {Good} total number bytes y law fits e =
    on_ok (record_at type total number bytes) _ y (TakesOne type contents Good bytes y) (λ f e1 h1.
    on_ok (read (checksum_place total f.1) f.0) _ y (TakesOne type contents Good bytes y) (λ v e2 h2.
    let is : bytes ≡ record_of type f.0 ++ f.1 = record_takes type total number bytes f fits e1 in
    let all = subst IsBytes is fits in
    let fit = fit_front (checksummed_bytes type f.0) (checksum_of (checksummed_bytes type f.0) ∷ [])
    (fit_front (record_of type f.0) f.1 all) in
    let t = law.takes (checksum_place total f.1) f.0 v fit.1.1.1 e2 in
    rw (← ok_is (v, f.1) y h2) (record {
      bytes_are = is ∙ ap (λ (c : List ℕ). record_of type c ++ f.1) t.0;
      rest_fits = fit_back (record_of type f.0) f.1 all;
      good = t.1;
    })) h1) e

pub one_again : {X : Type 0} (type : ℕ) {read : Reader X} {contents : X → List ℕ} {Good : X → Type 0}
    → Agrees read contents Good → (total number : ℕ) (x : X) (after : List ℕ) → Good x
    → one_at type read total number (record_of type (contents x) ++ after) ≡ Ok (x, after)
unfolding one_at
one_again type {read} {contents} law total number x after g =
    rw (record_again type total number (contents x) after, law.again (checksum_place total after) x g) refl

-- a record of another type comes
pub other_comes : {X : Type 0} (type other : ℕ) (contents : X → List ℕ) (xs : List X) (rest : List ℕ) → eqb other type
    ≡ false → begins type rest ≡ false → begins type (flat_map (λ x. record_of other (contents x)) xs ++ rest) ≡ false
other_comes type other contents [] rest ne h = h
other_comes type other contents (x ∷ xs) rest ne h = ne

-- what is shown of all records that were read
pub record TakesAll {X : Type 0} (written : X → List ℕ) (Tested : List X → X → Type 0) (bytes : List ℕ)
    (y : List X × List ℕ) : Type 0 where
  pub bytes_are : bytes ≡ flat_map written y.0 ++ y.1
  pub rest_fits : IsBytes y.1
  pub good : InTurn Tested [] y.0

module _ {X : Type 0} (type : ℕ) {read : List X → Reader X} {contents : X → List ℕ} {Tested : List X → X → Type 0}
    (law : (before : List X) → Agrees (read before) contents (Tested before)) (total : ℕ) where
  abbrev pub written : X → List ℕ
  written x = record_of type (contents x)

  -- the same, after those before
  record TakesMany (before : List X) (bytes : List ℕ) (y : List X × List ℕ) : Type 0 where
    pub new : List X
    pub is : before ++ new ≡ y.0
    pub bytes_are : bytes ≡ flat_map written new ++ y.1
    pub rest_fits : IsBytes y.1
    pub good : InTurn Tested before new

  stopped : (before : List X) (bytes : List ℕ) (y : List X × List ℕ) → IsBytes bytes → done (before, bytes) ≡ done y
      → TakesMany before bytes y
  stopped before bytes y fits e =
      subst (TakesMany before bytes) (ok_is (before, bytes) y e)
      (record { new = []; is = append-nil before; bytes_are = refl; rest_fits = fits; good = tt })

  many_takes : (most number : ℕ) (before : List X) (bytes : List ℕ) (y : List X × List ℕ) → IsBytes bytes
      → many_at type read total number most before bytes ≡ Ok y → TakesMany before bytes y
  unfolding many_at
  many_takes zero number before bytes y fits e = stopped before bytes y fits e
  many_takes (suc most) number before bytes y fits e = elim (cases_Bool (begins type bytes)) [
    | inl comes ↦ on_ok (one_at type (read before) total number bytes) _ y (TakesMany before bytes y) (λ one e1 h1.
        let t = one_takes type total number bytes one (law before) fits e1 in
        let r = many_takes most (number + 1) (before ++ one.0 ∷ []) one.1 y t.rest_fits h1 in
        record {
          new = one.0 ∷ r.new;
          is = sym (append_assoc before (one.0 ∷ []) r.new) ∙ r.is;
          bytes_are = joined bytes (written one.0) one.1 (flat_map written r.new) y.1 t.bytes_are r.bytes_are;
          rest_fits = r.rest_fits;
          good = (t.good, r.good);
        })
        (rw comes at e)
    | inr ends ↦ stopped before bytes y fits (rw ends at e)
  ]

  pub all_takes : (number : ℕ) (bytes : List ℕ) (y : List X × List ℕ) → IsBytes bytes
      → all_at type read total number bytes ≡ Ok y → TakesAll written Tested bytes y
  all_takes number bytes y fits e =
      let t = many_takes (length bytes) number [] bytes y fits e in
      record {
        bytes_are = t.bytes_are ∙ ap (λ xs. flat_map written xs ++ y.1) t.is;
        rest_fits = t.rest_fits;
        good = subst (InTurn Tested []) t.is t.good;
      }

  many_again : (new : List X) (most number : ℕ) (before : List X) (after : List ℕ) → length new ≤ most
      → InTurn Tested before new → begins type after ≡ false
      → many_at type read total number most before (flat_map written new ++ after) ≡ Ok (before ++ new, after)
  unfolding many_at
  many_again [] zero number before after few good ends = rw append-nil refl
  many_again [] (suc most) number before after few good ends = rw (ends, append-nil) refl
  many_again (x ∷ new) zero number before after few good ends = absurd (omega (arith, few))
  many_again (x ∷ new) (suc most) number before after few good ends =
      rw (
        append_assoc (written x) (flat_map written new) after,
        eq-eqb type type refl,
        one_again type (law before) total number x (flat_map written new ++ after) good.0,
        many_again new most (number + 1) (before ++ x ∷ []) after (omega (arith, few)) good.1 ends,
        append_assoc before (x ∷ []) new,
      ) refl

  enough : (xs : List X) (after : List ℕ) → length xs ≤ length (flat_map written xs ++ after)
  enough [] after = omega arith
  enough (x ∷ xs) after =
      omega (
        arith,
        ap length (append_assoc (written x) (flat_map written xs) after),
        length-append (written x) (flat_map written xs ++ after),
        length-append (checksummed_bytes type (contents x)) (checksum_of (checksummed_bytes type (contents x)) ∷ []),
        enough xs after,
      )

  pub all_again : (number : ℕ) (xs : List X) (after : List ℕ) → InTurn Tested [] xs → begins type after ≡ false
      → all_at type read total number (flat_map written xs ++ after) ≡ Ok (xs, after)
  all_again number xs after good ends =
      many_again xs (length (flat_map written xs ++ after)) number [] after (enough xs after) good ends

-- The records of a module, one after another, each of which may depend on those before it: how they are read, how they
-- are written, and that the one takes back the other.

-- the type is none of these
abbrev pub IsOther : ℕ → List ℕ → Type 0
IsOther type [] = Unit {0}
IsOther type (t ∷ ts) = (eqb t type ≡ false) × IsOther type ts

-- the records from one on to the end of M, which is made of their values; they are of these types
pub record Chain (types : List ℕ) (M A : Type 0) : Type 1 where
  pub good : A → Type 0
  pub write : A → List ℕ
  pub read : (A → M) → ℕ → ℕ → List ℕ → Result (M × List ℕ) ObjError
  pub begin : (type : ℕ) → IsOther type types → (a : A) (rest : List ℕ) → begins type (write a ++ rest) ≡ false
  pub again : (make : A → M) (total number : ℕ) (a : A) (rest : List ℕ) → good a
      → read make total number (write a ++ rest) ≡ Ok (make a, rest)
  pub takes : (make : A → M) (total number : ℕ) (bytes : List ℕ) (y : M × List ℕ) → IsBytes bytes
      → read make total number bytes ≡ Ok y → (a : A) × (make a ≡ y.0) × (bytes ≡ write a ++ y.1) × good a

module _ {M X : Type 0} (type : ℕ) {read : Reader X} {contents : X → List ℕ} {Good : X → Type 0}
    (law : Agrees read contents Good) where
  -- the last record
  abbrev pub last_record : Chain (type ∷ []) M X
  last_record = record {
    good = Good;
    write = λ x. record_of type (contents x);
    read = λ make total number bytes. one_at type read total number bytes >>= λ x. Ok (make x.0, x.1);
    begin = λ t other x rest. other.0;
    again = λ make total number x rest g. rw (one_again type law total number x rest g) refl;
    takes = λ make total number bytes y fits e. on_ok (one_at type read total number bytes) _ y _ (λ x e1 h1.
        let t = one_takes type total number bytes x law fits e1 in
        subst (λ (y : M × List ℕ). (a : X) × (make a ≡ y.0) × (bytes ≡ record_of type (contents a) ++ y.1) × Good a)
        (ok_is (make x.0, x.1) y h1) (x.0, refl, t.bytes_are, t.good)) e;
  }

  -- a record, and those after it
  abbrev pub then_record : {B : Type 0} {types : List ℕ} → (X → Chain types M B) → Chain (type ∷ types) M (X × B)
  then_record next = record {
    good = λ y. Good y.0 × (next y.0).good y.1;
    write = λ y. record_of type (contents y.0) ++ (next y.0).write y.1;
    read = λ make total number bytes. one_at type read total number bytes >>= λ x.
        (next x.0).read (λ b. make (x.0, b)) total (number + 1) x.1;
    begin = λ t other y rest. other.0;
    again = λ make total number y rest g.
        rw (
          append_assoc (record_of type (contents y.0)) ((next y.0).write y.1) rest,
          one_again type law total number y.0 ((next y.0).write y.1 ++ rest) g.0,
        )
        ((next y.0).again (λ b. make (y.0, b)) total (number + 1) y.1 rest g.1);
    takes = λ make total number bytes y fits e. on_ok (one_at type read total number bytes) _ y _ (λ x e1 h1.
        let t = one_takes type total number bytes x law fits e1 in
        let q = (next x.0).takes (λ b. make (x.0, b)) total (number + 1) x.1 y t.rest_fits h1 in (
          (x.0, q.0),
          q.1,
          joined bytes (record_of type (contents x.0)) x.1 ((next x.0).write q.0) y.1 t.bytes_are q.2,
          (t.good, q.3),
        )) e;
  }

abbrev pub spelled : {X : Type 0} → ℕ → (X → List ℕ) → List X → List ℕ
spelled type contents xs = flat_map (λ x. record_of type (contents x)) xs

module _ {M X : Type 0} (type : ℕ) {read : List X → Reader X} {contents : X → List ℕ} {Tested : List X → X → Type 0}
    (law : (before : List X) → Agrees (read before) contents (Tested before)) where
  -- all records of one type, and those after them
  abbrev pub then_records : {B : Type 0} {types : List ℕ} → IsOther type types → (List X → Chain types M B)
      → Chain (type ∷ types) M (List X × B)
  then_records other next = record {
    good = λ y. InTurn Tested [] y.0 × (next y.0).good y.1;
    write = λ y. spelled type contents y.0 ++ (next y.0).write y.1;
    read = λ make total number bytes. all_at type read total number bytes >>= λ x.
        (next x.0).read (λ b. make (x.0, b)) total (number + length x.0) x.1;
    begin = λ t o y rest. rw (append_assoc (spelled type contents y.0) ((next y.0).write y.1) rest)
        (other_comes t type contents y.0 ((next y.0).write y.1 ++ rest) o.0 ((next y.0).begin t o.1 y.1 rest));
    again = λ make total number y rest g.
        rw (
          append_assoc (spelled type contents y.0) ((next y.0).write y.1) rest,
          all_again type law total number y.0 ((next y.0).write y.1 ++ rest) g.0
              ((next y.0).begin type other y.1 rest),
        )
        ((next y.0).again (λ b. make (y.0, b)) total (number + length y.0) y.1 rest g.1);
    takes = λ make total number bytes y fits e. on_ok (all_at type read total number bytes) _ y _ (λ x e1 h1.
        let t = all_takes type law total number bytes x fits e1 in
        let q = (next x.0).takes (λ b. make (x.0, b)) total (number + length x.0) x.1 y t.rest_fits h1 in (
          (x.0, q.0),
          q.1,
          joined bytes (spelled type contents x.0) x.1 ((next x.0).write q.0) y.1 t.bytes_are q.2,
          (t.good, q.3),
        )) e;
  }
