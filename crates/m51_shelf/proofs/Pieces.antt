-- Files that are read piece by piece.
use Rattle.std.proofs.Common.{◌≡◌, ℕ, true, ◌+◌, ◌-◌, ◌^◌, ◌<◌, ◌≤◌, min, List, [], ◌++◌, length, take, drop, Option}
use Rattle.std.proofs.Common.{Some, None, sym, ap, ◌∙◌, subst, arith, length-append, append-nil, take-add, take_all}
use Rattle.std.specs.Prelude.{IfSome, IsSomeAnd}
use Rattle.std.proofs.lemmas.List.{length-take, length-take-le}
use Rattle.m51_cells.specs.declared.limits.TheConstants.{MOST_FILE_BYTES}
use Rattle.m51_shelf.specs.Shelf.{Files, IsPiece, Opens}
use Rattle.m51_shelf.specs.Reading.{IsFront, IsAll, HasTaken, TakesOn}
use Rattle.m51_shelf.specs.States.{ReadAt}

front_of_file : (file bytes piece : List ℕ) (taken count : ℕ) → taken ≡ length bytes → bytes ≡ take (length bytes) file
    → count ≤ length piece
    → IsPiece file taken count piece → bytes ++ take count piece ≡ take (length (bytes ++ take count piece)) file
front_of_file file bytes piece taken count is front room piece_is =
    let size : length (bytes ++ take count piece) ≡ length bytes + count =
    length-append bytes (take count piece) ∙ ap (λ n. length bytes + n) (length-take-le count piece room) in
    let behind : take count piece ≡ take count (drop (length bytes) file) = piece_is.bytes
    ∙ ap (λ n. take count (drop n file)) is in
    ap (λ b. bytes ++ b) behind ∙ ap (λ b. b ++ take count (drop (length bytes) file)) front
    ∙ sym (take-add (length bytes) count file)
    ∙ ap (λ n. take n file) (sym size)

-- the first bytes of the open file, and a piece of it
pub front_behind_piece : (opened : Option (List ℕ)) (bytes piece : List ℕ) (taken count : ℕ) → taken ≡ length bytes
    → IsFront opened bytes → count ≤ length piece
    → IfSome opened (λ file. IsPiece file taken count piece) → IsFront opened (bytes ++ take count piece)
front_behind_piece None bytes piece taken count is front room piece_is = tt
front_behind_piece (Some file) bytes piece taken count is front room piece_is =
    front_of_file file bytes piece taken count is front room piece_is

-- they are all, where nothing came
pub all_read : (opened : Option (List ℕ)) (bytes piece : List ℕ) (taken count : ℕ) → taken ≡ length bytes
    → IsFront opened bytes → 0 < length piece
    → IfSome opened (λ file. IsPiece file taken count piece) → count ≡ 0 → IsAll opened bytes
all_read None bytes piece taken count is front room piece_is none = tt
all_read (Some file) bytes piece taken count is front room piece_is none =
    sym (front ∙ take_all (length bytes) file (omega (arith, piece_is.at_end none room, is)))

-- all that was read from an open file is what the files hold under its name, if they are visible
pub whole_held : (holds : Option Files) (name : List ℕ) (opened : Option (List ℕ)) (bytes : List ℕ)
    → Opens holds name opened → IsAll opened bytes
    → IfSome holds (λ files. files name ≡ Some bytes)
whole_held None name opened bytes opens all = tt
whole_held (Some files) name None bytes opens all = absurd (cc opens.1)
whole_held (Some files) name (Some file) bytes opens all = opens.0 ∙ ap (λ f. Some f) all

longer : (file bytes : List ℕ) → bytes ≡ take (length bytes) file → length bytes ≤ length file
longer file bytes front = omega (arith, ap length front, length-take (length bytes) file)

some_long : (found : Option (List ℕ)) (file : List ℕ) → found ≡ Some file → MOST_FILE_BYTES < length file
    → IsSomeAnd found (λ f. MOST_FILE_BYTES < length f)
some_long None file is long = absurd (cc is)
some_long (Some other) file is long = subst (λ o. IsSomeAnd o (λ f. MOST_FILE_BYTES < length f)) (sym is) long

pub long_held : (holds : Option Files) (name : List ℕ) (opened : Option (List ℕ)) (bytes : List ℕ)
    → Opens holds name opened → IsFront opened bytes
    → MOST_FILE_BYTES < length bytes
    → IfSome holds (λ files. IsSomeAnd (files name) (λ file. MOST_FILE_BYTES < length file))
long_held None name opened bytes opens front long = tt
long_held (Some files) name None bytes opens front long = absurd (cc opens.1)
long_held (Some files) name (Some file) bytes opens front long =
    some_long (files name) file opens.0 (omega (arith, longer file bytes front, long))

-- the count of bytes taken is that of all bytes read, with the piece
pub taken_more : (taken count : ℕ) (bytes piece : List ℕ) → taken ≡ length bytes → count ≤ length piece
    → length bytes ≤ MOST_FILE_BYTES → length piece ≤ 4096
    → min (taken + count) (2 ^ 64 - 1) ≡ length (bytes ++ take count piece)
taken_more taken count bytes piece is room few short =
    omega (arith, is, room, few, short, length-append bytes (take count piece), length-take-le count piece room)

-- what was read before, without a piece and with one, has at most one byte past the limit
pub most_before : (bytes : List ℕ) → length bytes ≤ MOST_FILE_BYTES → length (bytes ++ []) ≤ MOST_FILE_BYTES + 1
most_before bytes few = omega (arith, few, ap length (append-nil bytes))

pub most_with : (bytes piece : List ℕ) (count : ℕ) → length bytes ≤ MOST_FILE_BYTES → count ≤ length piece
    → length piece ≤ MOST_FILE_BYTES + 1 - length bytes
    → length (bytes ++ take count piece) ≤ MOST_FILE_BYTES + 1
most_with bytes piece count few within room =
    omega (arith, few, within, room, length-append bytes (take count piece), length-take-le count piece within)

-- what was read from the open file, after a piece of it
pub taken_on : (before after : ReadAt) (bytes piece more : List ℕ) (count : ℕ) → HasTaken before bytes
    → length bytes ≤ MOST_FILE_BYTES
    → after.opened ≡ before.opened → after.ready ≡ true → after.taken ≡ min (before.taken + count) (2 ^ 64 - 1)
    → count ≤ length piece
    → 0 < length piece → length piece ≤ 4096 → length piece ≤ MOST_FILE_BYTES + 1 - length bytes
    → IfSome before.opened (λ file. IsPiece file before.taken count piece) → more ≡ bytes ++ take count piece
    → TakesOn after bytes more count
taken_on before after bytes piece more count so few same ready taken within some short room piece_is items = record {
  taken = record {
    ready = ready;
    taken = taken ∙ taken_more before.taken count bytes piece so.taken within few short ∙ ap length (sym items);
    front = rw (same, items)
        (front_behind_piece before.opened bytes piece before.taken count so.taken so.front within piece_is);
  };
  more = ap length items ∙ length-append bytes (take count piece)
      ∙ ap (λ n. length bytes + n) (length-take-le count piece within);
  few = omega (
    arith,
    within,
    few,
    room,
    ap length items,
    length-append bytes (take count piece),
    length-take-le count piece within,
  );
  at_end = λ none. rw (same, items, none, append-nil)
      (all_read before.opened bytes piece before.taken count so.taken so.front some piece_is none);
}
