-- What a shelf returns from an open file, piece by piece.
use Rattle.std.proofs.Common.{◌≡◌, ℕ, ◌+◌, ◌≤◌, length, List, [], ◌∷◌, ◌++◌, Option, Some, None, Result, Ok, Err, sym}
use Rattle.std.proofs.Common.{ap, ◌∙◌, subst, append_assoc, append-nil}
use Rattle.std.proofs.lemmas.Option.{same_Some}
use Rattle.m51_cells.specs.declared.limits.TheConstants.{MOST_FILE_BYTES}
use Rattle.m51_shelf.specs.declared.reading.FileReadError.{FileReadError}
use Rattle.m51_shelf.specs.Shelf.{File, Grows, AppendsToLast}
use Rattle.m51_shelf.specs.States.{ReadAt}
use Rattle.m51_shelf.specs.Reading.{GivesOn, HandsOver, IsGiven}

-- nothing more, and more after more
pub goes_none : (old : Option (List File)) → AppendsToLast old old []
goes_none None = tt
goes_none (Some old) =
    λ front name bytes is. ap (λ (x : List File). Some x)
    (is ∙ ap (λ (b : List ℕ). front ++ (name, b) ∷ []) (sym (append-nil bytes)))

pub goes_more : (old between new : Option (List File)) (bytes piece : List ℕ) → AppendsToLast old between bytes
    → AppendsToLast between new piece
    → AppendsToLast old new (bytes ++ piece)
goes_more None between new bytes piece one two = tt
goes_more (Some old) None new bytes piece one two = λ front name first is. absurd (cc (one front name first is))
goes_more (Some old) (Some now) new bytes piece one two =
    λ front name first is. two front name (first ++ bytes)
    (same_Some now (front ++ (name, first ++ bytes) ∷ []) (one front name first is))
    ∙ ap (λ (b : List ℕ). Some (front ++ (name, b) ∷ [])) (append_assoc first bytes piece)

pub same_goes : (old new : Option (List File)) → new ≡ old → AppendsToLast old new []
same_goes old new is = subst (λ (n : Option (List File)). AppendsToLast old n []) (sym is) (goes_none old)

-- a file that was started, and what came of it
pub grows_then : (old between new : Option (List File)) (name bytes : List ℕ) → Grows old between ((name, []) ∷ [])
    → AppendsToLast between new bytes
    → Grows old new ((name, bytes) ∷ [])
grows_then None between new name bytes one two = tt
grows_then (Some old) None new name bytes one two = absurd (cc one)
grows_then (Some old) (Some now) new name bytes one two = two old name [] (same_Some now (old ++ (name, []) ∷ []) one)

-- bytes that were read before, and a piece after them
pub goes_given : {T E : Type 0} (first : Option (List File)) (before after : ReadAt) (old new : List ℕ)
    (result : Result T E)
    → AppendsToLast first before.given old → (h : GivesOn before after old new result)
    → AppendsToLast first after.given (old ++ h.piece)
goes_given first before after old new result one h = goes_more first before.given after.given old h.piece one h.goes

pub goes_on : {T E : Type 0} (first : Option (List File)) (before after : ReadAt) (old new : List ℕ) (value : T)
    → AppendsToLast first before.given old
    → GivesOn {T = T} {E = E} before after old new (Ok value) → AppendsToLast first after.given new
goes_on {T} {E} first before after old new value one h =
    subst (λ (x : List ℕ). AppendsToLast first after.given x) (sym h.all)
    (goes_given {T = T} {E = E} first before after old new (Ok value) one h)

-- all of an open file, or what came of it
pub all_over : (first before after : ReadAt) (old new all : List ℕ) (count : ℕ)
    → AppendsToLast first.given before.given old
    → GivesOn {T = ℕ} {E = FileReadError} before after old new (Ok count) → all ≡ new → HandsOver first after (Ok all)
all_over first before after old new all count one h is =
    record {
      bytes = new;
      most = subst (λ (x : List ℕ). length x ≤ MOST_FILE_BYTES + 1) (sym h.all) h.most;
      goes = goes_on first.given before after old new count one h;
      all = is;
    }

pub part_over : (first before after : ReadAt) (old new : List ℕ) (result : Result ℕ FileReadError)
    (error : FileReadError) → AppendsToLast first.given before.given old
    → GivesOn before after old new result → HandsOver first after (Err error)
part_over first before after old new result error one h =
    record {
      bytes = old ++ h.piece;
      most = h.most;
      goes =
          goes_given first.given before after old new result one h;
      all = tt;
    }

-- a file that was started, and read on
pub started_given : (before between after : ReadAt) (name : List ℕ) (result : Result (List ℕ) FileReadError)
    → Grows before.given between.given ((name, []) ∷ []) → HandsOver between after result
    → IsGiven before after name result
started_given before between after name result one h =
    record {
      bytes = h.bytes;
      most = h.most;
      grows =
          grows_then before.given between.given after.given name h.bytes one h.goes;
      all = h.all;
    }
