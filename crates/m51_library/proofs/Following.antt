-- Reading modules one after another, as a loop does.
use Rattle.std.proofs.Common.{◌≡◌, ℕ, suc, ◌+◌, ◌-◌, ◌<◌, List, [], ◌∷◌, ◌++◌, length, Option, Some, None, Result, Ok}
use Rattle.std.proofs.Common.{Err, refl, sym, ap, ◌∙◌, arith, append_assoc, append-nil, length-append}
use Rattle.std.specs.List.{flat_map}
use Rattle.std.proofs.lemmas.List.{flat_map_more}
use Rattle.m51_cells.specs.Outcome.{RefusesWith}
use Rattle.m51_module.specs.declared.object_error.ObjError.{ObjError}
use Rattle.m51_module.specs.declared.parts.ModuleParts.{ModuleParts}
use Rattle.m51_frame.specs.Fields.{◌>>=◌}
use Rattle.m51_records.specs.Reading.{module_at}
use Rattle.m51_records.specs.Spelling.{bytes_of, records_in}
use Rattle.m51_library.specs.Reading.{modules_at}

-- what is read of modules and the bytes after them
abbrev pub Found : Type 0
Found = Result (List ModuleParts × List ℕ) ObjError

-- modules before those that are read
abbrev pub with_front : List ModuleParts → Found → Found
with_front front read = read >>= λ x. Ok (front ++ x.0, x.1)

-- one module and then those that are read
abbrev after_one : ModuleParts → Found → Found
after_one m read = read >>= λ x. Ok (m ∷ x.0, x.1)

moved : (front : List ModuleParts) (m : ModuleParts) (read : Found) → with_front (front ++ m ∷ []) read
    ≡ with_front front (after_one m read)
moved front m (Ok x) = ap (λ (ms : List ModuleParts). Ok (ms, x.1)) (append_assoc front (m ∷ []) x.0)
moved front m (Err e) = refl

next_read : (k total number : ℕ) (m : ModuleParts) (rest after : List ℕ) → module_at total number rest ≡ Ok (m, after)
    → modules_at (suc k) total number rest ≡ after_one m (modules_at k total (number + records_in m) after)
unfolding modules_at
next_read k total number m rest after e = rw e refl

next_refused : (k total number : ℕ) (rest : List ℕ) (e : ObjError) → module_at total number rest ≡ Err e
    → modules_at (suc k) total number rest ≡ Err e
unfolding modules_at
next_refused k total number rest e refused = rw refused refl

none_left : (total number : ℕ) (rest : List ℕ) → modules_at 0 total number rest ≡ Ok ([], rest)
unfolding modules_at
none_left total number rest = refl

left : (count index : ℕ) → index < count → count - index ≡ suc (count - (index + 1))
left count index lt = omega (arith, lt)

-- one more module
pub one_more : (front : List ModuleParts) (count index total number next : ℕ) (m : ModuleParts) (rest after : List ℕ)
    (whole : Found) → index < count
    → module_at total number rest ≡ Ok (m, after) → next ≡ number + records_in m
    → with_front front (modules_at (count - index) total number rest) ≡ whole
    → with_front (front ++ m ∷ []) (modules_at (count - (index + 1)) total next after) ≡ whole
one_more front count index total number next m rest after whole lt read goes_on goes =
    ap (λ n. with_front (front ++ m ∷ []) (modules_at (count - (index + 1)) total n after)) goes_on
    ∙ moved front m (modules_at (count - (index + 1)) total (number + records_in m) after)
    ∙ ap (with_front front)
    (sym (ap (λ k. modules_at k total number rest) (left count index lt)
    ∙ next_read (count - (index + 1)) total number m rest after read))
    ∙ goes

-- a module that is refused
pub one_refused : (front : List ModuleParts) (count index total number : ℕ) (rest : List ℕ) (whole : Found)
    (o : Option ObjError) → index < count
    → RefusesWith o (module_at total number rest) → with_front front (modules_at (count - index) total number rest)
    ≡ whole → RefusesWith o whole
one_refused front count index total number rest whole None lt refused goes = tt
one_refused front count index total number rest whole (Some e) lt refused goes =
    sym goes ∙ ap (with_front front)
    (ap (λ k. modules_at k total number rest) (left count index lt)
    ∙ next_refused (count - (index + 1)) total number rest e refused)

-- all modules
pub all_read : (front : List ModuleParts) (count index total number : ℕ) (rest : List ℕ) (whole : Found) → count ≡ index
    → with_front front (modules_at (count - index) total number rest) ≡ whole → whole ≡ Ok (front, rest)
all_read front count index total number rest whole same goes =
    let none : count - index ≡ 0 = omega (arith, same) in
    sym goes ∙ ap (λ k. with_front front (modules_at k total number rest)) none
    ∙ ap (with_front front) (none_left total number rest)
    ∙ ap (λ (ms : List ModuleParts). Ok (ms, rest)) (append-nil front)

-- their bytes
pub bytes_more : (front : List ModuleParts) (m : ModuleParts) (bytes rest after : List ℕ) → bytes
    ≡ flat_map bytes_of front ++ rest → rest ≡ bytes_of m ++ after
    → bytes ≡ flat_map bytes_of (front ++ m ∷ []) ++ after
bytes_more front m bytes rest after so_far one =
    so_far ∙ ap (λ (r : List ℕ). flat_map bytes_of front ++ r) one
    ∙ sym (append_assoc (flat_map bytes_of front) (bytes_of m) after)
    ∙ ap (λ (b : List ℕ). b ++ after) (flat_map_more bytes_of [] front m)

pub grown : (front : List ModuleParts) (m : ModuleParts) → length (front ++ m ∷ []) ≡ length front + 1
grown front m = length-append front (m ∷ [])
