-- Reading files one after the other, and what the shelf returned of them.
use Rattle.m51_chain.proofs.Common.{AreRead, Bool, Err, List, None, Ok, Option, ReadAt, Reading, ReadsSome, Result}
use Rattle.m51_chain.proofs.Common.{Some, TooLong, Whole, [], ap, append_assoc, arith, cond, drop, drop-cons, false}
use Rattle.m51_chain.proofs.Common.{get_or, inr, length, map, read_of, refl, suc, take, true, ℕ, ◌++◌, ◌+◌, ◌<◌, ◌∙◌}
use Rattle.m51_chain.proofs.Common.{◌∷◌, ◌≡◌, ◌≤◌, ◌⊎◌}
use Rattle.std.proofs.Common.{nat_le, take-append-drop, length-append}
use Rattle.m51_shelf.specs.Shelf.{File, Files, Grows}
use Rattle.std.specs.List.{All}
use Rattle.std.proofs.lemmas.List.Elements.{All-cons, All-head, All-nil, All-tail, Contains-get_or, All-append}
use Rattle.m51_chain.specs.Reading.{with_file, read_one, AreReadOr, IsFileReached, files_with}
use Rattle.std.specs.Prelude.{IfSome, IsSomeAnd, slice_get}
use Rattle.m51_shelf.specs.Reading.{IsRead, IsWholeFile, IsGiven, IsLong}
use Rattle.std.proofs.lemmas.List.{length-take-le, take_more}
use Rattle.std.proofs.lemmas.Bool.Decides.{nat_tests}
use Rattle.std.proofs.lemmas.Option.{same_Some, slice_get-get_or}
use Rattle.m51_cells.specs.declared.limits.TheConstants.{MOST_FILE_BYTES}
use Rattle.m51_shelf.specs.declared.reading.FileReadError.{FileReadError}
use Rattle.m51_shelf.specs.declared.reading.FileReadError.TheVariants as errors

-- ---- files that are read whole

-- contents before those of the files that are read next
abbrev with_files : List (List ℕ) → Reading → Reading
with_files [] reading = reading
with_files (bytes ∷ contents) reading = with_file bytes (with_files contents reading)

if_whole : (b : Bool) (bytes : List ℕ) (this that rest : Reading) (contents : List (List ℕ))
    → ((more : List (List ℕ)) → this ≡ Whole more → that ≡ with_files more rest)
    → cond b (with_file bytes this) TooLong ≡ Whole contents
    → cond b (with_file bytes that) TooLong ≡ with_files contents rest
if_whole true bytes (Whole more) that rest contents on h =
    let e : contents ≡ bytes ∷ more = cc h in rw e (ap (with_file bytes) (on more refl))
if_whole b bytes this that rest contents on h = absurd (cc h)

one_after : (name : List ℕ) (file : Option (List ℕ)) (this that rest : Reading) (contents : List (List ℕ))
    → ((more : List (List ℕ)) → this ≡ Whole more → that ≡ with_files more rest)
    → read_one name file this ≡ Whole contents
    → read_one name file that ≡ with_files contents rest
one_after name None this that rest contents on h = absurd (cc h)
one_after name (Some bytes) this that rest contents on h = if_whole _ bytes this that rest contents on h

-- what follows files that were read whole
read_after : (files : Files) (front rest contents : List (List ℕ)) → read_of files front ≡ Whole contents
    → read_of files (front ++ rest) ≡ with_files contents (read_of files rest)
read_after files [] rest contents h = let e : contents ≡ [] = cc h in rw e refl
read_after files (name ∷ front) rest contents h =
    one_after name (files name) (read_of files front) (read_of files (front ++ rest)) (read_of files rest) contents
    (λ more e. read_after files front rest more e) h

with_whole : (contents more : List (List ℕ)) → with_files contents (Whole more) ≡ Whole (contents ++ more)
with_whole [] more = refl
with_whole (bytes ∷ contents) more = ap (with_file bytes) (with_whole contents more)

with_long : (contents : List (List ℕ)) → with_files contents TooLong ≡ TooLong
with_long [] = refl
with_long (bytes ∷ contents) = ap (with_file bytes) (with_long contents)

within_test : (a b : ℕ) → a ≤ b → nat_le a b ≡ true
within_test a b h = grind (arith, nat_tests)

beyond_test : (a b : ℕ) → b < a → nat_le a b ≡ false
beyond_test a b h = grind (arith, nat_tests)

-- a file that exists and is within the limit, and one that is too long
whole_one : (name : List ℕ) (file : Option (List ℕ)) (bytes : List ℕ) (rest : Reading) → file ≡ Some bytes
    → length bytes ≤ MOST_FILE_BYTES
    → read_one name file rest ≡ with_file bytes rest
whole_one name file bytes rest is small = rw (is, within_test (length bytes) MOST_FILE_BYTES small) refl

long_one : (name : List ℕ) (file : Option (List ℕ)) (rest : Reading)
    → IsSomeAnd file (λ bytes. MOST_FILE_BYTES < length bytes) → read_one name file rest ≡ TooLong
long_one name None rest h = absurd h
long_one name (Some bytes) rest h = rw (beyond_test (length bytes) MOST_FILE_BYTES h) refl

one_more_held : (holds : Option Files) (front contents : List (List ℕ)) (name bytes : List ℕ)
    → length bytes ≤ MOST_FILE_BYTES
    → IfSome holds (λ files. read_of files front ≡ Whole contents) → IfSome holds (λ files. files name ≡ Some bytes)
    → IfSome holds (λ files. read_of files (front ++ name ∷ []) ≡ Whole (contents ++ bytes ∷ []))
one_more_held None front contents name bytes small h is = tt
one_more_held (Some files) front contents name bytes small h is =
    read_after files front (name ∷ []) contents h
    ∙ ap (with_files contents) (whole_one name (files name) bytes (Whole []) is small)
    ∙ with_whole contents (bytes ∷ [])

abbrev Within : List ℕ → Type 0
Within bytes = length bytes ≤ MOST_FILE_BYTES

-- one more file that was read whole
one_more : {holds : Option Files} {front contents : List (List ℕ)} {name bytes : List ℕ} {after : ReadAt}
    → AreRead holds front contents → IsWholeFile holds after bytes → after.named ≡ name
    → AreRead holds (front ++ name ∷ []) (contents ++ bytes ∷ [])
one_more {holds = holds} {front = front} {contents = contents} {bytes = bytes} {after = after} read whole named =
    rw (← named) (record {
      count = omega (arith, length-append contents (bytes ∷ []), length-append front (after.named ∷ []), read.count);
      within = All-append Within contents (bytes ∷ []) read.within
          (All-cons Within bytes [] whole.within (All-nil Within));
      held = one_more_held holds front contents after.named bytes whole.within read.held whole.held;
    })

-- a file that is too long, after files that were read whole
pub long_after : (files : Files) (names : List (List ℕ)) (after : ReadAt) → IsFileReached (Some files) names after.named
    → IsLong (Some files) after
    → read_of files names ≡ TooLong
long_after files names after at long =
    ap (read_of files) at.is ∙ read_after files at.front (after.named ∷ at.rest) at.contents at.read.held
    ∙ ap (with_files at.contents) (long_one after.named (files after.named) (read_of files at.rest) long.held)
    ∙ with_long at.contents

-- ---- what the shelf returned

grows_more : (old between new : Option (List File)) (first more : List File) → Grows old between first
    → Grows between new more
    → Grows old new (first ++ more)
grows_more None between new first more one two = tt
grows_more (Some old) None new first more one two = absurd (cc one)
grows_more (Some old) (Some now) new first more one two =
    two ∙ ap (λ (x : List File). Some (x ++ more)) (same_Some now (old ++ first) one)
    ∙ ap (λ (x : List File). Some x) (append_assoc old first more)

-- one more file
files_more : (names contents : List (List ℕ)) (name bytes : List ℕ) → length contents ≡ length names
    → files_with (names ++ name ∷ []) (contents ++ bytes ∷ []) ≡ files_with names contents ++ (name, bytes) ∷ []
files_more [] [] name bytes same = refl
files_more (n ∷ names) (b ∷ contents) name bytes same = cc (files_more names contents name bytes (omega (arith, same)))
files_more names contents name bytes same = absurd (omega (arith, same))

names_with : (names contents : List (List ℕ)) (name bytes : List ℕ) → length contents ≡ length names
    → map (λ (file : File). file.0) (files_with names contents ++ (name, bytes) ∷ []) ≡ names ++ name ∷ []
names_with [] [] name bytes same = refl
names_with (n ∷ names) (b ∷ contents) name bytes same =
    ap (λ (f : List (List ℕ)). n ∷ f) (names_with names contents name bytes (omega (arith, same)))
names_with names contents name bytes same = absurd (omega (arith, same))

-- of none of them more than one byte past the limit was taken
abbrev FewOf : File → Type 0
FewOf file = length file.1 ≤ MOST_FILE_BYTES + 1

files_few : (names contents : List (List ℕ)) → All Within contents → All FewOf (files_with names contents)
files_few (n ∷ names) (b ∷ contents) all =
    let first : length b ≤ MOST_FILE_BYTES = All-head Within b contents all in
    All-cons FewOf (n, b) (files_with names contents) (omega (arith, first))
    (files_few names contents (All-tail Within b contents all))
files_few names contents all = All-nil FewOf

-- ---- the file at an index, after the first ones were read whole

module _ (names : List (List ℕ)) (index : ℕ) (name : List ℕ) (low : index < length names)
    (is : name ≡ get_or names index name) where
  -- the name at the index
  at_index : names ≡ take index names ++ name ∷ drop (suc index) names
  at_index = cc (take-append-drop index names, drop-cons names index name low)

  -- the next names
  up_to : take (index + 1) names ≡ take index names ++ name ∷ []
  up_to = cc (take_more names index name low)

  module _ {holds : Option Files} {contents : List (List ℕ)} (read : AreRead holds (take index names) contents) where
    -- it is reached
    reached : (named : List ℕ) → named ≡ name → IsFileReached holds names named
    reached named same = rw same (record {
      front = take index names;
      rest = drop (suc index) names;
      contents = contents;
      is = at_index;
      read = read;
    })

    -- one more name is read
    pub read_more : {more : List (List ℕ)} {bytes : List ℕ} {after : ReadAt} → after.named ≡ name
        → IsWholeFile holds after bytes → more ≡ contents ++ bytes ∷ []
        → AreRead holds (take (index + 1) names) more
    read_more named whole items = rw (up_to, items) (one_more read whole named)

    -- it was not read whole
    pub unread : (first before after : ReadAt) (error : FileReadError) → after.named ≡ name
        → first.faults ≤ before.faults → IsRead holds before after (Err error)
        → AreReadOr holds names contents first after (Err error)
    unread first before after errors.TooLong same later long = (long, reached after.named same)
    unread first before after errors.Failed same later failed =
        let at : length contents ≡ index = read.count ∙ length-take-le index names (omega (arith, low)) in
        let there : slice_get names index ≡ Some after.named = cc (slice_get-get_or names index name low) in (
          record { rose = omega (arith, later, failed.rose); closed = failed.closed },
          reached after.named same,
          rw at there,
        )
    unread first before after errors.Memory same later out = tt

    -- the shelf returned it
    module _ (before between after : ReadAt)
        (first : Grows before.given between.given (files_with (take index names) contents)) where
      -- all of it
      pub given_more : {text bytes : List ℕ} {more : List (List ℕ)} → text ≡ name
          → IsGiven between after text (Ok bytes) → more ≡ contents ++ bytes ∷ []
          → Grows before.given after.given (files_with (take (index + 1) names) more)
      given_more {bytes = bytes} same shelf items =
          let given : IsGiven between after name (Ok bytes) = rw same at shelf in
          rw (up_to, items, given.all, files_more (take index names) contents name given.bytes read.count)
          (grows_more before.given between.given after.given (files_with (take index names) contents)
          ((name, given.bytes) ∷ []) first given.grows)

      -- or a part of it
      pub reads_some : {text : List ℕ} {result : Result (List ℕ) FileReadError} → text ≡ name
          → IsGiven between after text result → after.named ≡ text → after.taken ≤ MOST_FILE_BYTES + 1
          → (after ≡ before) ⊎ ReadsSome names before after
      reads_some {result = result} same shelf named most =
          let given : IsGiven between after name result = rw same at shelf in
          inr (record {
            started = record {
              files = files_with (take index names) contents ++ (name, given.bytes) ∷ [];
              rest = drop (suc index) names;
              given = grows_more before.given between.given after.given (files_with (take index names) contents)
                  ((name, given.bytes) ∷ []) first given.grows;
              are = cc (
                at_index,
                append_assoc (take index names) (name ∷ []) (drop (suc index) names),
                names_with (take index names) contents name given.bytes read.count,
              );
              most = All-append FewOf (files_with (take index names) contents) ((name, given.bytes) ∷ [])
                  (files_few (take index names) contents read.within)
                  (All-cons FewOf (name, given.bytes) [] given.most (All-nil FewOf));
            };
            named = rw (named, same, is) (Contains-get_or names index name low);
            most = most;
          })
