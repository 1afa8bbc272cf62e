-- Edges drawn one after another.
use Rattle.m51_graph.proofs.Common.{◌≡◌, ℕ, ◌+◌, ◌<◌, List, [], ◌∷◌, ◌++◌, length, drop, get_or, refl, sym, ap, subst}
use Rattle.m51_graph.proofs.Common.{◌∙◌, arith, add-one, Contains, range_with_len, flat_map, Control, added_by}
use Rattle.m51_graph.proofs.Common.{module_edges, with_edge, with_edges, Edges, ModuleParts}
use Rattle.std.proofs.Common.{drop-cons, append-nil}
use Rattle.std.proofs.lemmas.Grind.{flat_map-append}
use Rattle.std.proofs.lemmas.List.Elements.{Contains-get_or}
use Rattle.m51_cells.proofs.Small.{range_suc}
use Rattle.m51_graph.specs.Drawing.{with_added}

-- some edges, and then more
pub with_append : (edges one two : Edges) → with_edges edges (one ++ two) ≡ with_edges (with_edges edges one) two
with_append edges [] two = refl
with_append edges (e ∷ one) two = with_append (with_edge edges e) one two

-- the next item, and then the rest
pub drop_rest : {A : Type 0} → (xs : List A) (i : ℕ) (d : A) → i < length xs → drop i xs
    ≡ get_or xs i d ∷ drop (i + 1) xs
drop_rest xs i d below = drop-cons xs i d below ∙ ap (λ n. get_or xs i d ∷ drop n xs) (sym (add-one i))

-- one more line
pub added_step : (titles : List (List ℕ)) (controls : List (ℕ × Control)) (i : ℕ) (d : ℕ × Control) (old new : Edges)
    → i < length controls
    → new ≡ with_edges old (added_by titles (get_or controls i d).1)
    → with_added titles (drop (i + 1) controls) new ≡ with_added titles (drop i controls) old
added_step titles controls i d old new below is = rw (is, drop_rest controls i d below, with_append) refl

-- one more module
pub modules_step : (modules : List ModuleParts) (m : ℕ) (edges new : Edges)
    → new ≡ with_edges edges (module_edges modules m) → edges
    ≡ with_edges [] (flat_map (module_edges modules) (range_with_len 0 m))
    → new ≡ with_edges [] (flat_map (module_edges modules) (range_with_len 0 (m + 1)))
modules_step modules m edges new is before =
    let done = flat_map (module_edges modules) (range_with_len 0 m) in
    is ∙ ap (λ (es : Edges). with_edges es (module_edges modules m)) before
    ∙ sym (with_append [] done (module_edges modules m))
    ∙ ap (with_edges []) (sym (ap (λ n. flat_map (module_edges modules) (range_with_len 0 n)) (add-one m)
    ∙ ap (flat_map (module_edges modules)) (range_suc 0 m)
    ∙ flat_map-append (module_edges modules) (range_with_len 0 m) ((0 + m) ∷ [])
    ∙ ap (λ es. done ++ es)
    (ap (λ k. flat_map (module_edges modules) (k ∷ [])) (omega arith) ∙ append-nil (module_edges modules m))))

-- an item that is read in a list which is another
pub listed : {A : Type 0} (xs ys : List A) (i : ℕ) (d : A) → xs ≡ ys → i < length xs → Contains ys (get_or xs i d)
listed xs ys i d are below = subst (λ zs. Contains zs (get_or xs i d)) are (Contains-get_or xs i d below)
