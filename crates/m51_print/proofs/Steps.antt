-- The lists and lines of the map, one more at a time.
use Rattle.std.proofs.Common.{◌≡◌, ◌≢◌, ℕ, ◌+◌, ◌<◌, ◌/◌, ◌%◌, true, false, cond, List, [], ◌∷◌, ◌++◌, map, length}
use Rattle.std.proofs.Common.{drop, get_or, refl, ap, sym, ◌∙◌, append_assoc, arith}
use Rattle.std.specs.List.{list_any}
use Rattle.std.proofs.lemmas.Bool.{eq-eqb, ne_eqb}
use Rattle.std.proofs.lemmas.List.{drop_more}
use Rattle.m51_cells.specs.Name.{title_at}
use Rattle.m51_module.specs.declared.parts.LayoutParts.{LayoutParts}
use Rattle.m51_module.specs.declared.placed.Placed.{Placed}
use Rattle.m51_print.specs.Map.{roots_among, unit_lines, line_of_unit, overlays, overlaid_below}
use Rattle.m51_print.proofs.Ranges.{texts_more, counted_more}

-- the roots of a byte and of the vectors that are left, where the byte is odd or even
pub root_set : (titles : List (List ℕ)) (bits : ℕ) (vectors : List ℕ) (i : ℕ) → i < length vectors → bits % 2 ≡ 1
    → titles ++ map title_at (roots_among bits (drop i vectors)) ≡ (titles ++ title_at (get_or vectors i 0) ∷ [])
    ++ map title_at (roots_among (bits / 2) (drop (i + 1) vectors))
root_set titles bits vectors i h odd =
    let vector = get_or vectors i 0 in
    let more = roots_among (bits / 2) (drop (i + 1) vectors) in
    ap (λ d. titles ++ map title_at (roots_among bits d)) (drop_more vectors i 0 h)
    ∙ ap (λ b. titles ++ map title_at (cond b (vector ∷ more) more)) (eq-eqb (bits % 2) 1 odd)
    ∙ sym (append_assoc titles (title_at vector ∷ []) (map title_at more))

pub root_clear : (titles : List (List ℕ)) (bits : ℕ) (vectors : List ℕ) (i : ℕ) → i < length vectors → bits % 2 ≢ 1
    → titles ++ map title_at (roots_among bits (drop i vectors)) ≡ titles
    ++ map title_at (roots_among (bits / 2) (drop (i + 1) vectors))
root_clear titles bits vectors i h even =
    let vector = get_or vectors i 0 in
    let more = roots_among (bits / 2) (drop (i + 1) vectors) in
    ap (λ d. titles ++ map title_at (roots_among bits d)) (drop_more vectors i 0 h)
    ∙ ap (λ b. titles ++ map title_at (cond b (vector ∷ more) more)) (ne_eqb (bits % 2) 1 even)

-- the lines of no unit, and of one more
pub no_unit_lines : (l : LayoutParts) (roots : List ℕ) → unit_lines l roots 0 ≡ []
unfolding unit_lines
no_unit_lines l roots = refl

pub unit_lines_more : (l : LayoutParts) (roots : List ℕ) (count : ℕ)
    → unit_lines l roots (count + 1) ≡ unit_lines l roots count ++ line_of_unit l roots count
unfolding unit_lines
unit_lines_more l roots count = texts_more (line_of_unit l roots) count

-- the overlaid bytes below no address, and below one more
pub none_overlaid : (placed : List Placed) → overlaid_below placed 0 ≡ 0
unfolding overlaid_below
none_overlaid placed = refl

pub overlaid_yes : (placed : List Placed) (address : ℕ) → list_any (overlays address) placed ≡ true
    → overlaid_below placed (address + 1) ≡ overlaid_below placed address + 1
unfolding overlaid_below
overlaid_yes placed address h = counted_more (λ a. list_any (overlays a) placed) address
    ∙ ap (λ b. overlaid_below placed address + cond b 1 0) h

pub overlaid_no : (placed : List Placed) (address : ℕ) → list_any (overlays address) placed ≡ false
    → overlaid_below placed (address + 1) ≡ overlaid_below placed address
unfolding overlaid_below
overlaid_no placed address h =
    let e : overlaid_below placed address + 0 ≡ overlaid_below placed address = omega arith in
    counted_more (λ a. list_any (overlays a) placed) address ∙ ap (λ b. overlaid_below placed address + cond b 1 0) h
    ∙ e

-- the overlaid bytes, one more address at a time
pub ruleset overlaid_steps = (none_overlaid, overlaid_yes, overlaid_no)
