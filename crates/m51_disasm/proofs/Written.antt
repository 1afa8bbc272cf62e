-- Lines that are written one after another, and how many they are.
use Rattle.std.proofs.Common.{◌≡◌, ℕ, ◌+◌, ◌<◌, ◌≤◌, List, [], ◌∷◌, ◌++◌, length, get_or, map, take, refl, sym, ap, ◌∙◌}
use Rattle.std.proofs.Common.{append_assoc, append-nil, arith}
use Rattle.std.specs.Prelude.{flat_map, codes}
use Rattle.std.proofs.lemmas.List.{length-append, length-map, take_all, take_more}
use Rattle.m51_disasm.specs.declared.line.SourceLine.{SourceLine}
use Rattle.m51_disasm.specs.declared.line.SourceLine.TheVariants.{End, Nomod51, Segment}
use Rattle.m51_disasm.specs.declared.part.CodeRange.{CodeRange}
use Rattle.m51_disasm.specs.Lines.{beginnings, line_of, lines_of, part_lines, statement_lines, targets}
use Rattle.m51_disasm.specs.Statements.{statements_of}
use Rattle.m51_disasm.specs.Texts.{line_text, text_of_lines}

-- the text of some lines and of those after them
joined : (xs ys : List SourceLine) → text_of_lines (xs ++ ys) ≡ text_of_lines xs ++ text_of_lines ys
joined [] ys = refl
joined (x ∷ xs) ys =
    ap (λ l. (line_text x ++ codes "\n") ++ l) (joined xs ys)
    ∙ sym (append_assoc (line_text x ++ codes "\n") (text_of_lines xs) (text_of_lines ys))

-- more lines after those that are written
pub more_written : (text middle after : List ℕ) (xs ys : List SourceLine) → middle ≡ text ++ text_of_lines xs
    → after ≡ middle ++ text_of_lines ys → after ≡ text ++ text_of_lines (xs ++ ys)
more_written text middle after xs ys h k =
    k ∙ ap (λ l. l ++ text_of_lines ys) h ∙ append_assoc text (text_of_lines xs) (text_of_lines ys)
    ∙ ap (λ l. text ++ l) (sym (joined xs ys))

map_joined : {A B : Type 0} (f : A → B) (xs ys : List A) → map f (xs ++ ys) ≡ map f xs ++ map f ys
map_joined f [] ys = refl
map_joined f (x ∷ xs) ys = ap (λ l. f x ∷ l) (map_joined f xs ys)

-- the line at one more address
pub line_written : (f : ℕ → SourceLine) (at : List ℕ) (i : ℕ) (d : ℕ) (text middle after : List ℕ) → i < length at
    → middle ≡ text ++ text_of_lines (map f (take i at))
    → after ≡ middle ++ text_of_lines (f (get_or at i d) ∷ [])
    → after ≡ text ++ text_of_lines (map f (take (i + 1) at))
line_written f at i d text middle after below h k =
    more_written text middle after (map f (take i at)) (f (get_or at i d) ∷ []) h k
    ∙ ap (λ l. text ++ text_of_lines l)
    (sym (map_joined f (take i at) (get_or at i d ∷ [])) ∙ ap (map f) (sym (take_more at i d below)))

flat_joined : {A B : Type 0} (f : A → List B) (xs : List A) (y : A) → flat_map f (xs ++ y ∷ []) ≡ flat_map f xs ++ f y
flat_joined f [] y = append-nil (f y)
flat_joined f (x ∷ xs) y = ap (λ l. f x ++ l) (flat_joined f xs y) ∙ sym (append_assoc (f x) (flat_map f xs) (f y))

-- the lines of one more part
pub one_part_written : (image : List ℕ) (parts : List CodeRange) (i : ℕ) (d : CodeRange) (text middle after : List ℕ)
    → i < length parts → middle ≡ text ++ text_of_lines (flat_map (part_lines image) (take i parts))
    → after ≡ middle ++ text_of_lines (part_lines image (get_or parts i d))
    → after ≡ text ++ text_of_lines (flat_map (part_lines image) (take (i + 1) parts))
one_part_written image parts i d text middle after below h k =
    more_written text middle after (flat_map (part_lines image) (take i parts)) (part_lines image (get_or parts i d)) h
    k
    ∙ ap (λ l. text ++ text_of_lines l)
    (sym (flat_joined (part_lines image) (take i parts) (get_or parts i d))
    ∙ ap (flat_map (part_lines image)) (sym (take_more parts i d below)))

-- the line that begins a part, and its statements
pub part_written : (image : List ℕ) (part : CodeRange) (text middle after : List ℕ)
    → middle ≡ text ++ text_of_lines (Segment part.base ∷ [])
    → after ≡ middle ++ text_of_lines (statement_lines (statements_of image part))
    → after ≡ text ++ text_of_lines (part_lines image part)
unfolding part_lines
part_written image part text middle after h k =
    more_written text middle after (Segment part.base ∷ []) (statement_lines (statements_of image part)) h k

-- the first line, those of the parts, and the last one
pub all_written : (image : List ℕ) (parts : List CodeRange) (one two three : List ℕ)
    → one ≡ [] ++ text_of_lines (Nomod51 ∷ [])
    → two ≡ one ++ text_of_lines (flat_map (part_lines image) parts)
    → three ≡ two ++ text_of_lines (End ∷ [])
    → three ≡ text_of_lines (lines_of image parts)
unfolding lines_of
all_written image parts one two three h k m =
    let lines : List SourceLine = Nomod51 ∷ flat_map (part_lines image) parts in
    more_written [] two three lines (End ∷ []) (more_written [] one two (Nomod51 ∷ []) _ h k) m

-- how many lines a part has
part_counted : (image : List ℕ) (part : CodeRange)
    → length (part_lines image part) ≡ 1 + length (beginnings (statements_of image part))
unfolding part_lines
part_counted image part =
    let all = statements_of image part in
    omega (
      arith,
      length-map all (λ s. s.at),
      length-map all (line_of (beginnings all) (targets all)),
    )

pub one_counted : (image : List ℕ) (parts : List CodeRange) (i : ℕ) (d : CodeRange) (count begin : ℕ) → i < length parts
    → count ≡ 2 + length (flat_map (part_lines image) (take i parts))
    → begin ≡ length (beginnings (statements_of image (get_or parts i d)))
    → count + (1 + begin) ≡ 2 + length (flat_map (part_lines image) (take (i + 1) parts))
one_counted image parts i d count begin below h is =
    let more : flat_map (part_lines image) (take (i + 1) parts)
    ≡ flat_map (part_lines image) (take i parts) ++ part_lines image (get_or parts i d) =
    ap (flat_map (part_lines image)) (take_more parts i d below)
    ∙ flat_joined (part_lines image) (take i parts) (get_or parts i d) in
    let long = ap length more ∙ length-append (flat_map (part_lines image) (take i parts))
    (part_lines image (get_or parts i d)) in
    omega (arith, long, h, is, part_counted image (get_or parts i d))

pub all_counted : (image : List ℕ) (parts : List CodeRange) (i count : ℕ) → length parts ≤ i
    → count ≡ 2 + length (flat_map (part_lines image) (take i parts)) → count ≡ length (lines_of image parts)
unfolding lines_of
all_counted image parts i count past h =
    let all : count ≡ 2 + length (flat_map (part_lines image) parts) =
    h ∙ ap (λ l. 2 + length (flat_map (part_lines image) l)) (take_all i parts past) in
    omega (arith, all, length-append (flat_map (part_lines image) parts) (End ∷ []))
