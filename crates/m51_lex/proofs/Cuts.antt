-- The cut of a line, from one token to the next.
use Rattle.std.proofs.Common.{◌≡◌, ℕ, zero, suc, ◌+◌, ◌-◌, ◌<◌, ◌≤◌, List, [], ◌∷◌, ◌++◌, length, drop, Ok, Err, refl}
use Rattle.std.proofs.Common.{sym, ap, ◌∙◌, append_assoc, add-zero, length-drop, drop-drop, arith}
use Rattle.std.specs.List.{All, AllByRecursion}
use Rattle.std.proofs.lemmas.List.Elements.{All-from_recursion}
use Rattle.std.proofs.lemmas.Grind.{common_steps}
use Rattle.m51_lex.specs.declared.lexeme.Lexeme.{Lexeme}
use Rattle.m51_lex.specs.declared.lexeme.Lexeme.TheVariants as lexeme
use Rattle.m51_lex.specs.declared.token.Token.{Token}
use Rattle.m51_lex.specs.declared.token.What.{What}
use Rattle.m51_lex.specs.Lexeme.{lexeme_of}
use Rattle.m51_lex.specs.Tokens.{Cut, AreSlices, IsWithin, put_front, after_lexeme, tokens_at}

-- passing bytes over is reading on after them
pub passes : (n at : ℕ) (bytes : List ℕ) → tokens_at n at bytes ≡ tokens_at 0 (at + n) (drop n bytes)
passes zero at bytes = ap (λ a. tokens_at 0 a bytes) (sym (add-zero at))
passes (suc n) at [] = refl
passes (suc n) at (b ∷ bytes) = passes n (at + 1) bytes ∙ ap (λ a. tokens_at 0 a (drop n bytes)) (omega arith)

-- reading on may be said in two ways
same_after : (at : ℕ) (p : Lexeme) (f g : ℕ → Cut) → ((n : ℕ) → f n ≡ g n) → after_lexeme at p f ≡ after_lexeme at p g
same_after at lexeme.Blank f g h = h 0
same_after at lexeme.Comment f g h = refl
same_after at (lexeme.Token what len) f g h =
    ap (put_front (record { what = what; from = at; to = at + len } ∷ [])) (h (len - 1))
same_after at (lexeme.Fault k) f g h = refl

pub from_front : (at : ℕ) (l : List ℕ) → 0 < length l → tokens_at 0 at l
    ≡ after_lexeme at (lexeme_of l) (λ n. tokens_at 0 (at + 1 + n) (drop (1 + n) l))
from_front at [] h = absurd (omega (arith, h))
from_front at (b ∷ l) h =
    same_after at (lexeme_of (b ∷ l)) _ _
    (λ n. passes n (at + 1) l ∙ ap (λ r. tokens_at 0 (at + 1 + n) r) (grind (arith, common_steps)))

two_fronts : (a b : List Token) (r : Cut) → put_front a (put_front b r) ≡ put_front (a ++ b) r
two_fronts a b (Ok ts) = ap Ok (sym (append_assoc a b ts))
two_fronts a b (Err k) = refl

-- the rest of a line, cut at its beginning
at_place : (at : ℕ) (line rest : List ℕ) → at < length line → rest ≡ drop at line → tokens_at 0 at (drop at line)
    ≡ after_lexeme at (lexeme_of rest) (λ n. tokens_at 0 (at + (1 + n)) (drop (at + (1 + n)) line))
at_place at line rest inside is =
    from_front at (drop at line) (omega (arith, length-drop at line, inside))
    ∙ ap (λ l. after_lexeme at (lexeme_of l) (λ n. tokens_at 0 (at + 1 + n) (drop (1 + n) (drop at line)))) (sym is)
    ∙ same_after at (lexeme_of rest) _ _
    (λ n. ap (λ a. tokens_at 0 a (drop (1 + n) (drop at line))) (omega arith)
    ∙ ap (λ l. tokens_at 0 (at + (1 + n)) l) (drop-drop (1 + n) at line))

pub blank_step : (at : ℕ) (line rest : List ℕ) (out : List Token) (r : Cut) → at < length line → rest ≡ drop at line
    → lexeme_of rest ≡ lexeme.Blank → put_front out (tokens_at 0 at (drop at line)) ≡ r
    → put_front out (tokens_at 0 (at + 1) (drop (at + 1) line)) ≡ r
blank_step at line rest out r inside is blank told =
    ap (put_front out)
    (sym (at_place at line rest inside is
    ∙ ap (λ p. after_lexeme at p (λ n. tokens_at 0 (at + (1 + n)) (drop (at + (1 + n)) line))) blank)) ∙ told

pub token_step : (at : ℕ) (line rest : List ℕ) (out : List Token) (r : Cut) (what : What) (len : ℕ) → at < length line
    → rest ≡ drop at line → lexeme_of rest ≡ lexeme.Token what len → 0 < len
    → put_front out (tokens_at 0 at (drop at line)) ≡ r
    → put_front (out ++ record { what = what; from = at; to = at + len } ∷ [])
    (tokens_at 0 (at + len) (drop (at + len) line)) ≡ r
token_step at line rest out r what len inside is token some told =
    let t : Token = record { what = what; from = at; to = at + len } in
    let same : 1 + (len - 1) ≡ len = omega (arith, some) in
    sym (two_fronts out (t ∷ []) (tokens_at 0 (at + len) (drop (at + len) line)))
    ∙ ap (put_front out)
    (ap (λ n. put_front (t ∷ []) (tokens_at 0 (at + n) (drop (at + n) line))) (sym same)
    ∙ sym (at_place at line rest inside is
    ∙ ap (λ p. after_lexeme at p (λ n. tokens_at 0 (at + (1 + n)) (drop (at + (1 + n)) line))) token))
    ∙ told

pub slices_more : (from to more : ℕ) (ts : List Token) → AreSlices from to ts → to ≤ more → AreSlices from more ts
slices_more from to more [] h le = omega (arith, h, le)
slices_more from to more (t ∷ ts) h le = (h.0, h.1, slices_more t.to to more ts h.2 le)

pub slices_push : (from to more : ℕ) (ts : List Token) (t : Token) → AreSlices from to ts → to ≤ t.from → t.from < t.to
    → t.to ≤ more → AreSlices from more (ts ++ t ∷ [])
slices_push from to more [] t h after some le = (omega (arith, h, after), some, le)
slices_push from to more (u ∷ ts) t h after some le = (h.0, h.1, slices_push u.to to more ts t h.2 after some le)

slices_end : (from to : ℕ) (ts : List Token) → AreSlices from to ts → from ≤ to
slices_end from to [] h = h
slices_end from to (t ∷ ts) h = omega (arith, h.0, h.1, slices_end t.to to ts h.2)

each_within : (ts : List Token) (from to : ℕ) → AreSlices from to ts → AllByRecursion (IsWithin to) ts
each_within [] from to h = tt
each_within (t ∷ ts) from to h = ((h.1, slices_end t.to to ts h.2), each_within ts t.to to h.2)

-- slices in order end within the line
pub slices_within : (ts : List Token) (from to : ℕ) → AreSlices from to ts → All (IsWithin to) ts
slices_within ts from to h = All-from_recursion (IsWithin to) ts (each_within ts from to h)
