-- The modules of a library are accepted one by one, and what is not accepted is refused by B1, Full or B3.
use Rattle.std.proofs.Common.{◌≡◌, ◌≢◌, ℕ, suc, ◌<◌, nat_le, Bool, true, false, cond, List, [], ◌∷◌, ◌++◌, length}
use Rattle.std.proofs.Common.{get_or, Option, Some, None, refl, ap, sym, subst, ◌∙◌, arith, append_assoc, append-nil}
use Rattle.std.proofs.Common.{length-append}
use Rattle.std.specs.Prelude.{Result, Ok, Err, IfSome, option_map}
use Rattle.std.specs.List.{find, list_any}
use Rattle.std.specs.Str.{bytes_eq}
use Rattle.std.proofs.lemmas.Bool.{false_from_ne_true}
use Rattle.std.proofs.lemmas.Bool.Decides.{nat_tests}
use Rattle.std.proofs.Math.Seq.{get_or-append_seam}
use Rattle.std.proofs.lemmas.List.{get_or_append_left}
use Rattle.std.proofs.lemmas.List.Elements.{Contains-get_or}
use Rattle.std.proofs.lemmas.Slice.Eq.{bytes_eq-Decides}
use Rattle.m51_cells.specs.declared.limits.TheConstants.{MOST_MODULES}
use Rattle.m51_module.specs.declared.library_error.LibError.{LibError}
use Rattle.m51_module.specs.declared.library_error.LibError.TheVariants.{B1, B2, B3, Full, Object, Memory}
use Rattle.m51_module.specs.declared.parts.ModuleParts.{ModuleParts}
use Rattle.m51_module.specs.declared.symbol.Public.{Public}
use Rattle.m51_cells.specs.Outcome.{and_then}
use Rattle.m51_module.specs.Library.{IsLibrary, ShareNoPublic, is_named, holds, has_public, defines, value_unless}
use Rattle.m51_module.specs.Library.{clash, add_refusal, added_each}

-- nothing passes where each element fails
found_none : {X : Type 0} (p : X → Bool) (xs : List X) → ((k : ℕ) (d : X) → k < length xs → p (get_or xs k d) ≡ false)
    → find p xs ≡ None
found_none p [] h = refl
found_none p (x ∷ xs) h =
    let head : p x ≡ false = h 0 x (omega arith) in
    rw head (found_none p xs (λ k d lt. h (suc k) d (omega (arith, lt))))

any_none : {X : Type 0} (p : X → Bool) (xs : List X) → ((k : ℕ) (d : X) → k < length xs → p (get_or xs k d) ≡ false)
    → list_any p xs ≡ false
any_none p [] h = refl
any_none p (x ∷ xs) h =
    let head : p x ≡ false = h 0 x (omega arith) in
    rw head (any_none p xs (λ k d lt. h (suc k) d (omega (arith, lt))))

-- facts about a module of a library and the modules before it
module _ (before after : List ModuleParts) (m : ModuleParts) (h : IsLibrary (before ++ m ∷ after)) where
  inside : length before < length (before ++ m ∷ after)
  inside = omega (arith, length-append before (m ∷ after))

  differs : (k : ℕ) (d : ModuleParts) → k < length before → (get_or before k d).name ≢ m.name
  differs k d lt e =
      h.names k (length before) d lt inside
      (ap (λ (x : ModuleParts). x.name) (get_or_append_left before (m ∷ after) d k lt) ∙ e
      ∙ ap (λ (x : ModuleParts). x.name) (sym (get_or-append_seam before m after d)))

  shares : (k : ℕ) (d : ModuleParts) → k < length before → ShareNoPublic (get_or before k d) m
  shares k d lt =
      let P : ModuleParts → Type 0 = λ x. ShareNoPublic x m in
      let Q : ModuleParts → Type 0 = λ x. ShareNoPublic (get_or (before ++ m ∷ after) k d) x in
      subst P (get_or_append_left before (m ∷ after) d k lt)
      (subst Q (get_or-append_seam before m after d) (h.publics k (length before) d lt inside))

  no_name : holds before m.name ≡ false
  no_name =
      any_none (is_named m.name) before
      (λ k d lt. false_from_ne_true _ (λ met. differs k d lt ((bytes_eq-Decides _ _).0 met)))

  no_clash : clash before m ≡ None
  no_clash =
      ap (option_map (λ (p : Public). B3 p.name))
      (found_none (λ (p : Public). defines before p.name) m.publics (λ j d lt.
      any_none (has_public (get_or m.publics j d).name) before (λ k e kt.
      any_none (λ (q : Public). bytes_eq q.name (get_or m.publics j d).name) (get_or before k e).publics (λ i f it.
      false_from_ne_true _ (λ met.
      shares k e kt (get_or (get_or before k e).publics i f) (get_or m.publics j d)
      (Contains-get_or (get_or before k e).publics i f it) (Contains-get_or m.publics j d lt)
      ((bytes_eq-Decides _ _).0 met))))))

  room : nat_le MOST_MODULES (length before) ≡ false
  room =
      let few : length before < 255 = omega (arith, inside, h.few) in
      let full : nat_le 255 (length before) ≡ false = grind (arith, nat_tests) in full

  -- it is not refused beside them
  pub accepts : add_refusal before m ≡ None
  accepts = rw (no_name, room) no_clash

-- a library is what its modules build
pub accepted : (before ms : List ModuleParts) → IsLibrary (before ++ ms) → added_each before ms ≡ Ok (before ++ ms)
accepted before [] h = ap Ok (sym (append-nil before))
accepted before (m ∷ more) h =
    let next : (before ++ m ∷ []) ++ more ≡ before ++ m ∷ more = append_assoc before (m ∷ []) more in
    let P : List ModuleParts → Type 0 = λ ms. IsLibrary ms in
    ap (λ (o : Option LibError). and_then (value_unless o (before ++ m ∷ [])) (λ now. added_each now more))
    (accepts before more m h)
    ∙ accepted (before ++ m ∷ []) more (subst P (sym next) h) ∙ ap Ok next

-- B1, Full or B3
abbrev pub IsOfModules : LibError → Type 0
IsOfModules (B1 name) = Unit {0}
IsOfModules (B2 name) = ⊥
IsOfModules (B3 name) = Unit {0}
IsOfModules Full = Unit {0}
IsOfModules (Object refusal) = ⊥
IsOfModules Memory = ⊥

kinds : (b c : Bool) (name : List ℕ) (o : Option Public)
    → IfSome (cond b (Some (B1 name)) (cond c (Some Full) (option_map (λ (p : Public). B3 p.name) o))) IsOfModules
kinds true c name o = tt
kinds false true name o = tt
kinds false false name None = tt
kinds false false name (Some p) = tt

passed : (o : Option LibError) (v : List ModuleParts) (next : List ModuleParts → Result (List ModuleParts) LibError)
    (e : LibError)
    → IfSome o IsOfModules → (next v ≡ Err e → IsOfModules e) → and_then (value_unless o v) next ≡ Err e → IsOfModules e
passed None v next e h go made = go made
passed (Some refusal) v next e h go made = let P : LibError → Type 0 = λ x. IsOfModules x in let same : refusal ≡ e = cc
    in subst P same h

-- what refuses modules that are added one by one
pub refuses_so : (before ms : List ModuleParts) (e : LibError) → added_each before ms ≡ Err e → IsOfModules e
refuses_so before [] e h = absurd (cc h)
refuses_so before (m ∷ more) e h =
    passed (add_refusal before m) (before ++ m ∷ []) (λ now. added_each now more) e
    (kinds (holds before m.name) (nat_le MOST_MODULES (length before)) m.name
    (find (λ (p : Public). defines before p.name) m.publics))
    (refuses_so (before ++ m ∷ []) more e) h

added_all : (o : Option LibError) (v whole made : List ModuleParts)
    (next : List ModuleParts → Result (List ModuleParts) LibError)
    → (next v ≡ Ok made → made ≡ whole) → and_then (value_unless o v) next ≡ Ok made → made ≡ whole
added_all None v whole made next go h = go h
added_all (Some refusal) v whole made next go h = absurd (cc h)

-- what is made of modules that are added one by one
pub makes_all : (before ms made : List ModuleParts) → added_each before ms ≡ Ok made → made ≡ before ++ ms
makes_all before [] made h = let same : before ≡ made = cc in sym same ∙ sym (append-nil before)
makes_all before (m ∷ more) made h =
    added_all (add_refusal before m) (before ++ m ∷ []) (before ++ m ∷ more) made (λ now. added_each now more)
    (λ e. makes_all (before ++ m ∷ []) more made e ∙ append_assoc before (m ∷ []) more) h
