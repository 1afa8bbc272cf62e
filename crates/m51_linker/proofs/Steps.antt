-- One more item, or one more module, of what is gone over.
use Rattle.std.proofs.Common.{◌≡◌, ℕ, ◌+◌, ◌<◌, List, [], ◌∷◌, ◌++◌, length, map, take, get_or, Option, Some, None}
use Rattle.std.proofs.Common.{refl, sym, ap, subst, ◌∙◌}
use Rattle.std.specs.Prelude.{flat_map, option_to_list}
use Rattle.std.specs.List.{cons_option, filter_map, range_with_len}
use Rattle.std.proofs.lemmas.List.{append-nil, map-append, take_more}
use Rattle.std.proofs.lemmas.List.Concat.{flat_map-append}
use Rattle.std.proofs.lemmas.List.Elements.{filter_map-append}
use Rattle.m51_cells.proofs.Small.{range_more}
use Rattle.m51_linker.specs.Memory.{AreWritten}
use Rattle.m51_linker.specs.Stretches.{Stretch}
use Rattle.m51_linker.proofs.Written.{written_more}

-- what the modules up to one have
pub modules_more : {A : Type 0} (items : ℕ → List A) (m : ℕ)
    → flat_map items (range_with_len 0 (m + 1)) ≡ flat_map items (range_with_len 0 m) ++ items m
modules_more items m =
    ap (flat_map items) (range_more m) ∙ flat_map-append items (range_with_len 0 m) (m ∷ [])
    ∙ ap (λ xs. flat_map items (range_with_len 0 m) ++ xs) (append-nil (items m))

pub module_written : (items : ℕ → List Stretch) (m : ℕ) (old mid new : ℕ → Option ℕ)
    → AreWritten (flat_map items (range_with_len 0 m)) old mid → AreWritten (items m) mid new
    → AreWritten (flat_map items (range_with_len 0 (m + 1))) old new
module_written items m old mid new h k =
    subst (λ (xs : List Stretch). AreWritten xs old new) (sym (modules_more items m))
    (written_more (flat_map items (range_with_len 0 m)) (items m) old mid new h k)

-- one more piece
pub piece_written : {X : Type 0} (f : X → Stretch) (xs : List X) (i : ℕ) (x : X) (old mid new : ℕ → Option ℕ)
    → i < length xs → x ≡ get_or xs i x
    → AreWritten (map f (take i xs)) old mid → AreWritten (f x ∷ []) mid new
    → AreWritten (map f (take (i + 1) xs)) old new
piece_written {X} f xs i x old mid new below is h k =
    let more : map f (take (i + 1) xs) ≡ map f (take i xs) ++ f x ∷ [] =
    ap (map f) (take_more xs i x below ∙ ap (λ (y : X). take i xs ++ y ∷ []) (sym is))
    ∙ map-append f (take i xs) (x ∷ []) in
    subst (λ (ss : List Stretch). AreWritten ss old new) (sym more)
    (written_more (map f (take i xs)) (f x ∷ []) old mid new h k)

-- one more fixup
one_option : {X A : Type 0} (f : X → Option A) (x : X) → filter_map f (x ∷ []) ≡ option_to_list (f x)
one_option {X} {A} f x = by (f x) where
  by : (o : Option A) → cons_option o [] ≡ option_to_list o
  by None = refl
  by (Some y) = refl

pub options_more : {X A : Type 0} (f : X → Option A) (xs : List X) (i : ℕ) (d : X) → i < length xs
    → filter_map f (take (i + 1) xs) ≡ filter_map f (take i xs) ++ option_to_list (f (get_or xs i d))
options_more f xs i d below =
    let x = get_or xs i d in
    ap (filter_map f) (take_more xs i d below) ∙ filter_map-append f (take i xs) (x ∷ [])
    ∙ ap (λ ys. filter_map f (take i xs) ++ ys) (one_option f x)

pub fixup_written : {X : Type 0} (f : X → Option Stretch) (xs : List X) (i : ℕ) (d : X) (old mid new : ℕ → Option ℕ)
    → i < length xs
    → AreWritten (filter_map f (take i xs)) old mid → AreWritten (option_to_list (f (get_or xs i d))) mid new
    → AreWritten (filter_map f (take (i + 1) xs)) old new
fixup_written f xs i d old mid new below h k =
    subst (λ (ss : List Stretch). AreWritten ss old new) (sym (options_more f xs i d below))
    (written_more (filter_map f (take i xs)) (option_to_list (f (get_or xs i d))) old mid new h k)
