-- Runs that grow at their end are those that are joined from the last back.
use Rattle.std.proofs.Common.{◌≡◌, ℕ, ◌+◌, Bool, true, false, cond, List, [], ◌∷◌, ◌++◌, length, map, refl, ap, sym}
use Rattle.std.proofs.Common.{◌∙◌, append_assoc, length-append, arith}
use Rattle.std.specs.Prelude.{◌==◌}
use Rattle.std.proofs.lemmas.Bool.{eqb-true}
use Rattle.std.proofs.lemmas.List.{map-append, flat_map_more}
use Rattle.m51_module.specs.declared.content.Fixup.{Fixup}
use Rattle.m51_module.specs.declared.segment.Segment.{Segment}
use Rattle.m51_emit.specs.Pieces.{Run, before_runs, if_bytes, fixup_of}
use Rattle.m51_emit.specs.Gathering.{PlacedContent, run_of, runs_of, fixups_of, gathered_of, pushed_after, run_appended}
use Rattle.m51_emit.specs.Gathering.{with_run, with_line}

pushed_after_last : (run : Run) (more : List Run) (last x : Run)
    → pushed_after run (more ++ last ∷ []) x ≡ run ∷ (more ++ before_runs last.0 last.1 (x ∷ []))
pushed_after_last run [] last x = refl
pushed_after_last run (next ∷ more) last x = ap (λ (runs : List Run). run ∷ runs) (pushed_after_last next more last x)

-- a run after runs is joined with the last of them, or follows it
pushed_last : (runs : List Run) (last x : Run)
    → run_appended (runs ++ last ∷ []) x ≡ runs ++ before_runs last.0 last.1 (x ∷ [])
pushed_last [] last x = refl
pushed_last (run ∷ more) last x = pushed_after_last run more last x

of_cond : {A B : Type 0} (f : A → B) (b : Bool) (x y : A) → f (cond b x y) ≡ cond b (f x) (f y)
of_cond f true x y = refl
of_cond f false x y = refl

-- the test of the first and the second of three runs, and that of the second and the third, in either order
either_order : (a b c : Bool) → (a ≡ true → c ≡ b) → (run : Run) (one two three four : List Run)
    → cond b (cond a one (run ∷ two)) (cond a three (run ∷ four)) ≡ cond a (cond c one three) (run ∷ cond b two four)
either_order true true c same run one two three four = sym (ap (λ (t : Bool). cond t one three) (same refl))
either_order true false c same run one two three four = sym (ap (λ (t : Bool). cond t one three) (same refl))
either_order false true c same run one two three four = refl
either_order false false c same run one two three four = refl

-- where a run touches the next, both end where the next does
same_end : (at : ℕ) (bytes : List ℕ) (next x : Run) → (at + length bytes == next.0) ≡ true
    → (at + length (bytes ++ next.1) == x.0) ≡ (next.0 + length next.1 == x.0)
same_end at bytes next x touches =
    let end : at + length (bytes ++ next.1) ≡ next.0 + length next.1 =
    omega (arith, length-append bytes next.1, eqb-true _ _ touches) in
    ap (λ (n : ℕ). n == x.0) end

before_pushed_after : (at : ℕ) (bytes : List ℕ) (next : Run) (more : List Run) (x : Run)
    → before_runs at bytes (pushed_after next more x) ≡ run_appended (before_runs at bytes (next ∷ more)) x
before_pushed_after at bytes next [] x =
    of_cond (before_runs at bytes) (next.0 + length next.1 == x.0) _ _
    ∙ (ap (λ (all : List ℕ). cond (next.0 + length next.1 == x.0)
    (cond (at + length bytes == next.0) ((at, all) ∷ []) ((at, bytes) ∷ (next.0, next.1 ++ x.1) ∷ []))
    (cond (at + length bytes == next.0) ((at, bytes ++ next.1) ∷ x ∷ []) ((at, bytes) ∷ next ∷ x ∷ [])))
    (sym (append_assoc bytes next.1 x.1))
    ∙ (either_order _ _ (at + length (bytes ++ next.1) == x.0) (same_end at bytes next x) (at, bytes) _ _ _ _
    ∙ sym (of_cond (λ runs. run_appended runs x) (at + length bytes == next.0) ((at, bytes ++ next.1) ∷ [])
    ((at, bytes) ∷ next ∷ []))))
before_pushed_after at bytes next (second ∷ more) x =
    sym (of_cond (λ runs. run_appended runs x) (at + length bytes == next.0) ((at, bytes ++ next.1) ∷ second ∷ more)
    ((at, bytes) ∷ next ∷ second ∷ more))

before_pushed : (at : ℕ) (bytes : List ℕ) (runs : List Run) (x : Run)
    → before_runs at bytes (run_appended runs x) ≡ run_appended (before_runs at bytes runs) x
before_pushed at bytes [] x = refl
before_pushed at bytes (next ∷ more) x = before_pushed_after at bytes next more x

if_pushed : (at : ℕ) (bytes : List ℕ) (runs : List Run) (x : Run)
    → if_bytes at bytes (run_appended runs x) ≡ run_appended (if_bytes at bytes runs) x
if_pushed at [] runs x = refl
if_pushed at (byte ∷ bytes) runs x = before_pushed at (byte ∷ bytes) runs x

-- runs with additional bytes after them
pub runs_grow : (xs : List Run) (at : ℕ) (bytes : List ℕ)
    → runs_of (xs ++ (at, bytes) ∷ []) ≡ with_run (runs_of xs) at bytes
runs_grow [] at [] = refl
runs_grow (x ∷ xs) at [] = ap (if_bytes x.0 x.1) (runs_grow xs at [])
runs_grow [] at (byte ∷ bytes) = refl
runs_grow (x ∷ xs) at (byte ∷ bytes) =
    ap (if_bytes x.0 x.1) (runs_grow xs at (byte ∷ bytes)) ∙ if_pushed x.0 x.1 (runs_of xs) (at, byte ∷ bytes)

-- what is gathered from lines and one more
pub gathered_grows : (segments : List Segment) (segment : ℕ) (xs : List PlacedContent) (x : PlacedContent)
    → gathered_of segments segment (xs ++ x ∷ []) ≡ with_line segments (gathered_of segments segment xs) x
gathered_grows segments segment xs x =
    let of : PlacedContent → List Fixup = λ y. map (fixup_of segments segment y.0) y.1.references in
    let runs : runs_of (map run_of (xs ++ x ∷ [])) ≡ with_run (runs_of (map run_of xs)) x.0 x.1.bytes =
    ap runs_of (map-append run_of xs (x ∷ [])) ∙ runs_grow (map run_of xs) x.0 x.1.bytes in
    let fixups : fixups_of segments segment (xs ++ x ∷ []) ≡ fixups_of segments segment xs ++ of x =
    sym (flat_map_more of [] xs x) in
    λ i. record { segment = segment; runs = runs i; fixups = fixups i }

-- bytes after a last run
pub run_after : (old runs : List Run) (last : Run) (at : ℕ) (bytes : List ℕ) → old ≡ runs ++ last ∷ []
    → (length bytes == 0) ≡ false → runs ++ before_runs last.0 last.1 ((at, bytes) ∷ []) ≡ with_run old at bytes
run_after old runs last at [] is h = absurd (cc h)
run_after old runs last at (byte ∷ bytes) is h = rw is (sym (pushed_last runs last (at, byte ∷ bytes)))
