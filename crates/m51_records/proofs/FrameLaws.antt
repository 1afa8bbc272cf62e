-- The frame of a record, and the reading of records of one type, as a loop does.
use Rattle.std.proofs.Common.{◌≡◌, ℕ, suc, ◌+◌, ◌-◌, ◌*◌, ◌<◌, Bool, true, false, cond, eqb, ltb, List, [], ◌∷◌, ◌++◌}
use Rattle.std.proofs.Common.{length, take, drop, Result, Ok, Err, refl, ap, ◌∙◌, append_assoc, arith, length-append}
use Rattle.std.proofs.Common.{zero, ◌≤◌, sym}
use Rattle.std.proofs.lemmas.Bool.{eqb-true, eq-eqb, le-ltb, ltb-false}
use Rattle.std.proofs.lemmas.List.{take_at, drop_at, take-append-drop, length-take}
use Rattle.std.proofs.Math.Nat.{mod-add-div}
use Rattle.m51_cells.proofs.Small.{positive, not_zero}
use Rattle.m51_module.specs.declared.object_error.ObjError.{ObjError}
use Rattle.m51_module.specs.declared.object_error.ObjError.TheVariants.{O1, O3, O4}
use Rattle.m51_frame.specs.Fields.{offset_of, ◌>>=◌, record_refusal}
use Rattle.m51_frame.specs.Frame.{checksum_of, checksummed_bytes, record_of, Framed, summed, framed_record, lengthed}
use Rattle.m51_frame.specs.Frame.{record_at, begins, checksum_place}
use Rattle.m51_records.proofs.FieldLaws.{IsBytes}
use Rattle.m51_cells.specs.Outcome.{RefusesWith}
use Rattle.m51_records.specs.Reading.{Reader, one_at, many_at}

-- The frame of a record that is read is the frame that was written, and what was written is read again.

-- a test that was passed
pub cond_ok : {A : Type 0} (b : Bool) (r : Result A ObjError) (d : ObjError) (x : A) → cond b r (Err d) ≡ Ok x
    → (b ≡ true) × (r ≡ Ok x)
cond_ok b r d x e = grind arith

pub cond_no : {A : Type 0} (b : Bool) (r : Result A ObjError) (d : ObjError) (x : A) → cond b (Err d) r ≡ Ok x
    → (b ≡ false) × (r ≡ Ok x)
cond_no b r d x e = grind arith

-- a record whose length is that of its contents and one more
closed_takes : (total number len l first low high : ℕ) (rest : List ℕ) (x : Framed) → len ≡ suc l
    → framed_record total number len (first ∷ low ∷ high ∷ rest) ≡ Ok x
    → (first ∷ low ∷ high ∷ rest ≡ (first ∷ low ∷ high ∷ x.0) ++ checksum_of (first ∷ low ∷ high ∷ x.0) ∷ x.1)
    × (length x.0 + 1 ≡ len)
unfolding framed_record
closed_takes total number len l first low high rest x is e =
    let bytes : List ℕ = first ∷ low ∷ high ∷ rest in
    let a = cond_no (ltb (length bytes) (2 + len)) (summed total number (take (2 + len) bytes) (drop (2 + len) bytes))
    (O1 total) x e in
    grind (arith, ltb-false, take-append-drop, length-take)

lengthed_takes : (total number : ℕ) (first : ℕ) (more : List ℕ) (x : Framed) → IsBytes more
    → lengthed total number (first ∷ more) ≡ Ok x → first ∷ more ≡ record_of first x.0 ++ x.1
unfolding lengthed
lengthed_takes total number first [] x fits e = absurd cc
lengthed_takes total number first (low ∷ []) x fits e = absurd cc
lengthed_takes total number first (low ∷ high ∷ rest) x fits e =
    let len : ℕ = low + 256 * high in
    let a = cond_no (eqb len 0) (framed_record total number len (first ∷ low ∷ high ∷ rest))
    (O4 (offset_of total (low ∷ high ∷ rest))) x e in
    let some : 0 < len = positive len a.0 in
    let b = closed_takes total number len (len - 1) first low high rest x (omega (arith, some)) a.1 in
    grind (arith, append_assoc)

pub record_takes : (type total number : ℕ) (bytes : List ℕ) (x : Framed) → IsBytes bytes
    → record_at type total number bytes ≡ Ok x → bytes ≡ record_of type x.0 ++ x.1
unfolding record_at
record_takes type total number [] x fits e = absurd cc
record_takes type total number (first ∷ more) x fits e =
    let a = cond_ok (eqb first type) (lengthed total number (first ∷ more)) (O3 (offset_of total (first ∷ more))) x e in
    let t : first ≡ type = eqb-true first type a.0 in
    lengthed_takes total number first more x fits.1 a.1 ∙ ap (λ t. record_of t x.0 ++ x.1) t

closed_again : (total number len : ℕ) (front after : List ℕ) → length front ≡ 2 + len
    → framed_record total number len (front ++ checksum_of front ∷ after) ≡ Ok (drop 3 front, after)
unfolding framed_record
closed_again total number len front after is =
    let bytes : List ℕ = front ++ checksum_of front ∷ after in
    let room : ltb (length bytes) (2 + len) ≡ false =
    le-ltb (length bytes) (2 + len) (grind (arith, length-append)) in
    grind (arith, take_at, drop_at)

-- what is written is read again, whatever follows
pub record_again : (type total number : ℕ) (contents after : List ℕ)
    → record_at type total number (record_of type contents ++ after) ≡ Ok (contents, after)
unfolding record_at lengthed
record_again type total number contents after =
    let n : ℕ = length contents + 1 in
    let front : List ℕ = checksummed_bytes type contents in
    cc (
      append_assoc front (checksum_of front ∷ []) after,
      eq-eqb type type refl,
      mod-add-div n 256,
      not_zero n (omega arith),
      closed_again total number n front after (omega arith),
    )

-- Reading records of one type one after the other, as a loop does.

-- Invariant of the loop that reads records of one type, of which the first has the first number: with the records read
-- before, reading the rest gives the whole.
pub record Stands {X : Type 0} (type : ℕ) (read : List X → Reader X) (total first : ℕ) (before : List X)
    (rest : List ℕ) (whole : Result (List X × List ℕ) ObjError) : Type 0 where
  pub most : ℕ
  pub enough : length rest ≤ most
  pub goes : many_at type read total (first + length before) most before rest ≡ whole

-- an error of a part is one of the whole, where the part's refusal is the whole's
refused : {A B : Type 0} (e : ObjError) (part : Result A ObjError) (whole : Result B ObjError)
    → ((f : ObjError) → part ≡ Err f → whole ≡ Err f)
    → RefusesWith (record_refusal e) part → RefusesWith (record_refusal e) whole
refused e part whole h r = grind arith

-- What the loops of the code know: the test that a record comes, the record's number and end, and the borrowed items so
-- far.
module _ {X : Type 0} (type : ℕ) (read : List X → Reader X) (total first : ℕ) (before : List X) (rest : List ℕ)
    (whole : Result (List X × List ℕ) ObjError) (test : Bool) (is : test ≡ begins type rest) (at : ℕ)
    (at_is : at ≡ first + length before) (s : Stands type read total first before rest whole) where
  -- the record that comes, and those after it
  record Comes : Type 0 where
    pub most : ℕ
    pub enough : length rest ≤ suc most
    pub goes : whole
        ≡ (one_at type (read before) total at rest >>= λ one. many_at type read total (at + 1) most
        (before ++ one.0 ∷ []) one.1)

  comes : test ≡ true → Comes
  unfolding many_at
  comes b = cases s.most s.enough s.goes where
    none : (bytes : List ℕ) → begins type bytes ≡ true → length bytes ≤ 0 → ⊥
    none [] h le = cc
    none (x ∷ xs) h le = omega arith

    cases : (most : ℕ) → length rest ≤ most → many_at type read total (first + length before) most before rest ≡ whole
        → Comes
    cases zero le e = absurd (none rest (sym is ∙ b) le)
    cases (suc most) le e = record { most = most; enough = le; goes = sym e ∙ rw (← is, b, ← at_is) refl }

  -- a record that is refused
  pub frame_stops : (e : ObjError) → test ≡ true → RefusesWith (record_refusal e) (record_at type total at rest)
      → RefusesWith (record_refusal e) whole
  unfolding one_at
  frame_stops e b r = refused e (record_at type total at rest) whole (λ f h. rw h at (comes b).goes) r

  module _ (end : ℕ) (now : List X) (contents after : List ℕ) (b : test ≡ true)
      (framed : record_at type total at rest ≡ Ok (contents, after)) (end_is : end ≡ checksum_place total after)
      (now_is : now ≡ before) where
    pub value_stops : (e : ObjError) → RefusesWith (record_refusal e) (read now end contents)
        → RefusesWith (record_refusal e) whole
    unfolding one_at
    value_stops e r = refused e (read now end contents) whole (λ f h.
        let value : read before (checksum_place total after) contents ≡ Err f = rw (← now_is, ← end_is) h in
        rw (framed, value) at (comes b).goes) r

    -- one more record
    pub one_more : (items : List X) (x : X) → read now end contents ≡ Ok x → items ≡ before ++ x ∷ []
        → length after < length rest → Stands type read total first items after whole
    unfolding one_at
    one_more items x got items_is less =
        let c = comes b in
        let value : read before (checksum_place total after) contents ≡ Ok x = rw (← now_is, ← end_is) got in
        let number : first + length (before ++ x ∷ []) ≡ at + 1 = omega (arith, length-append before (x ∷ [])) in
        record {
          most = c.most;
          enough = omega (arith, c.enough, less);
          goes = rw (items_is, number) (sym (rw (framed, value) at c.goes));
        }

  -- no further record
  pub all_read : test ≡ false → whole ≡ Ok (before, rest)
  unfolding many_at
  all_read b = cases s.most s.goes where
    cases : (most : ℕ) → many_at type read total (first + length before) most before rest ≡ whole
        → whole ≡ Ok (before, rest)
    cases zero e = sym e
    cases (suc most) e = sym e ∙ rw (← is, b) refl
