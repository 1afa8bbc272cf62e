-- The statements of a part, one after another.
use Rattle.std.proofs.Common.{◌≡◌, ℕ, zero, suc, ◌+◌, ◌-◌, ◌<◌, ◌≤◌, List, [], ◌∷◌, ◌++◌, map, refl, sym, ap, ◌∙◌}
use Rattle.std.proofs.Common.{append_assoc, append-nil, arith}
use Rattle.std.specs.Prelude.{Err, Ok, OnOk, Option, Result}
use Rattle.std.specs.List.{cons_option, filter_map}
use Rattle.m51_disasm.specs.declared.line.SourceLine.{SourceLine}
use Rattle.m51_disasm.specs.declared.part.CodeRange.{CodeRange}
use Rattle.m51_disasm.specs.declared.statement.Statement.{Statement}
use Rattle.m51_disasm.specs.Lines.{beginnings, line_of, statement_lines, targets}
use Rattle.m51_disasm.specs.Statements.{length_in, statement_at, statements_from, statements_of, statement_target}
use Rattle.m51_disasm.specs.Texts.{text_of_lines}

-- bytes that are passed over only move the address
passed_over : (image : List ℕ) (end passed at more : ℕ)
    → statements_from image end passed at more ≡ statements_from image end 0 (at + passed) (more - passed)
unfolding statements_from
passed_over image end zero at more =
    let a : at ≡ at + 0 = omega arith in
    let m : more ≡ more - 0 = omega arith in
    ap (λ n. statements_from image end 0 n more) a ∙ ap (statements_from image end 0 (at + 0)) m
passed_over image end (suc passed) at zero =
    let none : 0 ≡ 0 - suc passed = omega arith in
    ap (statements_from image end 0 (at + suc passed)) none
passed_over image end (suc passed) at (suc more) =
    let a : at + 1 + passed ≡ at + suc passed = omega arith in
    let m : more - passed ≡ suc more - suc passed = omega arith in
    passed_over image end passed (at + 1) more
    ∙ ap (λ n. statements_from image end 0 n (more - passed)) a
    ∙ ap (statements_from image end 0 (at + suc passed)) m

-- the beginnings of the statements from an address on are that address, and those after its statement
from_one : (image : List ℕ) (end at more : ℕ)
    → beginnings (statements_from image end 0 at (suc more))
    ≡ at ∷ beginnings (statements_from image end (length_in (statement_at image end at).content - 1) (at + 1) more)
unfolding statements_from statement_at
from_one image end at more = refl

-- one more statement is done, of `len` bytes
pub walked_on : (image done : List ℕ) (end at len : ℕ) (whole : List ℕ)
    → len ≡ length_in (statement_at image end at).content → at < end → 1 ≤ len
    → done ++ beginnings (statements_from image end 0 at (end - at)) ≡ whole
    → (done ++ at ∷ []) ++ beginnings (statements_from image end 0 (at + len) (end - (at + len))) ≡ whole
walked_on image done end at len whole is below some h =
    let size : ℕ = length_in (statement_at image end at).content in
    let more : ℕ = end - (at + 1) in
    let left : suc more ≡ end - at = omega (arith, below) in
    let passed : size - 1 ≡ len - 1 = omega (arith, is) in
    let a : at + 1 + (len - 1) ≡ at + len = omega (arith, some) in
    let m : more - (len - 1) ≡ end - (at + len) = omega (arith, some, below) in
    let rest : statements_from image end (size - 1) (at + 1) more
    ≡ statements_from image end 0 (at + len) (end - (at + len)) =
    ap (λ n. statements_from image end n (at + 1) more) passed
    ∙ passed_over image end (len - 1) (at + 1) more
    ∙ ap (λ n. statements_from image end 0 n (more - (len - 1))) a
    ∙ ap (statements_from image end 0 (at + len)) m in
    let step : beginnings (statements_from image end 0 at (end - at))
    ≡ at ∷ beginnings (statements_from image end 0 (at + len) (end - (at + len))) =
    sym (ap (λ n. beginnings (statements_from image end 0 at n)) left)
    ∙ from_one image end at more ∙ ap (λ l. at ∷ beginnings l) rest in
    append_assoc done (at ∷ []) (beginnings (statements_from image end 0 (at + len) (end - (at + len))))
    ∙ ap (λ l. done ++ l) (sym step) ∙ h

-- where the end is reached, nothing is left
pub walked_all : (image done : List ℕ) (end at : ℕ) (whole : List ℕ) → end ≤ at
    → done ++ beginnings (statements_from image end 0 at (end - at)) ≡ whole → done ≡ whole
unfolding statements_from
walked_all image done end at whole past h =
    let none : end - at ≡ 0 = omega (arith, past) in
    sym (append-nil done) ∙ ap (λ n. done ++ beginnings (statements_from image end 0 at n)) (sym none) ∙ h

-- the statements of a part are those at their beginnings
again : (image : List ℕ) (end passed at more : ℕ)
    → map (statement_at image end) (beginnings (statements_from image end passed at more))
    ≡ statements_from image end passed at more
unfolding statements_from statement_at
again image end passed at zero = refl
again image end (suc passed) at (suc more) = again image end passed (at + 1) more
again image end zero at (suc more) =
    ap (λ l. statement_at image end at ∷ l)
    (again image end (length_in (statement_at image end at).content - 1) (at + 1) more)

map_after : {A B C : Type 0} (f : B → C) (g : A → B) (xs : List A) → map f (map g xs) ≡ map (λ x. f (g x)) xs
map_after f g [] = refl
map_after f g (x ∷ xs) = ap (λ l. f (g x) ∷ l) (map_after f g xs)

filter_after : {A B C : Type 0} (h : B → Option C) (g : A → B) (xs : List A)
    → filter_map h (map g xs) ≡ filter_map (λ x. h (g x)) xs
filter_after h g [] = refl
filter_after h g (x ∷ xs) = ap (cons_option (h (g x))) (filter_after h g xs)

-- so their lines are those of the statements at their beginnings, and so are their targets
pub lines_there : (image : List ℕ) (part : CodeRange) (begin led : List ℕ)
    → begin ≡ beginnings (statements_of image part)
    → led ≡ filter_map (λ a. statement_target (statement_at image (part.base + part.size) a)) begin
    → map (λ a. line_of begin led (statement_at image (part.base + part.size) a)) begin
    ≡ statement_lines (statements_of image part)
lines_there image part begin led is to =
    let end : ℕ = part.base + part.size in
    let all : List Statement = statements_of image part in
    let same : map (statement_at image end) begin ≡ all =
    ap (map (statement_at image end)) is ∙ again image end 0 part.base part.size in
    let found : led ≡ targets all =
    to ∙ sym (filter_after statement_target (statement_at image end) begin) ∙ ap (filter_map statement_target) same in
    sym (map_after (line_of begin led) (statement_at image end) begin)
    ∙ ap (map (line_of begin led)) same
    ∙ ap (λ b. map (line_of b led) all) is
    ∙ ap (λ t. map (line_of (beginnings all) t) all) found

-- and so is what is put at the end of a text, where there is memory
pub same_lines : {T E : Type 0} (r : Result T E) (image text : List ℕ) (part : CodeRange) (end : ℕ)
    (begin led found at after : List ℕ)
    → end ≡ part.base + part.size → begin ≡ beginnings (statements_of image part) → found ≡ begin
    → led ≡ filter_map (λ a. statement_target (statement_at image end a)) found → at ≡ begin
    → OnOk r (after ≡ text ++ text_of_lines (map (λ a. line_of begin led (statement_at image end a)) at))
    → OnOk r (after ≡ text ++ text_of_lines (statement_lines (statements_of image part)))
same_lines (Ok u) image text part end begin led found at after ends is same to there h =
    let line : ℕ → ℕ → SourceLine = λ n a. line_of begin led (statement_at image n a) in
    let leads : ℕ → ℕ → Option ℕ = λ n a. statement_target (statement_at image n a) in
    let targets_there : led ≡ filter_map (leads (part.base + part.size)) begin =
    to ∙ ap (filter_map (leads end)) same ∙ ap (λ n. filter_map (leads n) begin) ends in
    h ∙ ap (λ l. text ++ text_of_lines (map (line end) l)) there
    ∙ ap (λ n. text ++ text_of_lines (map (line n) begin)) ends
    ∙ ap (λ l. text ++ text_of_lines l) (lines_there image part begin led is targets_there)
same_lines (Err e) image text part end begin led found at after ends is same to there h = tt
