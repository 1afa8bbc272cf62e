-- Files by kind, one file after the other.
use Rattle.std.proofs.Common.{◌≡◌, ◌∙◌, ℕ, suc, ◌+◌, ◌<◌, ◌≤◌, Bool, true, false, cond, List, [], ◌∷◌, ◌++◌, length}
use Rattle.std.proofs.Common.{map, drop, get_or, Option, Some, None, refl, ap, sym, subst, append_assoc, append-nil}
use Rattle.std.proofs.Common.{add-one, drop-cons, length-append, arith}
use Rattle.std.proofs.lemmas.List.{drop_all, length-map, map-append}
use Rattle.m51_module.specs.declared.source.SourceFile.{SourceFile}
use Rattle.m51_jobs.specs.declared.endings.Ending.{Ending}
use Rattle.m51_jobs.specs.declared.endings.Ending.TheVariants as ending
use Rattle.m51_jobs.specs.Endings.{ending_of, is_source, is_include, is_a_source, is_an_include}
use Rattle.m51_inputs.specs.declared.sorting.Sorted.{Sorted}
use Rattle.m51_inputs.specs.declared.sorting.SourceArgument.{SourceArgument}
use Rattle.m51_inputs.specs.Files.{includes_of, source_words, sources_of}
use Rattle.m51_inputs.specs.Sorting.{IsSorted, files_in, with_file, words_in}
use Rattle.m51_inputs.proofs.FileLists.{file_kept, file_passed}

-- The first `index` files were sorted.
pub record IsSortedTo (index : ℕ) (names contents : List (List ℕ)) (sorted : Sorted) : Type 0 where
  pub endings : sorted.endings ++ map ending_of (drop index names) ≡ map ending_of names
  pub sources : files_in sorted.sources ++ sources_of (drop index names) (drop index contents)
      ≡ sources_of names contents
  pub words : words_in sorted.sources ++ source_words index (drop index names) ≡ source_words 0 names
  pub includes : sorted.includes ++ includes_of (drop index names) (drop index contents) ≡ includes_of names contents
  pub few : length sorted.includes ≤ index

cut : (names : List (List ℕ)) (i : ℕ) (name : List ℕ) → i < length names → name ≡ get_or names i name
    → drop i names ≡ name ∷ drop (i + 1) names
cut names i name some at =
    drop-cons names i name some ∙ ap (λ (n : List ℕ). n ∷ drop (suc i) names) (sym at)
    ∙ ap (λ (k : ℕ). name ∷ drop k names) (sym (add-one i))

-- one more ending
ending_more : (names : List (List ℕ)) (i : ℕ) (name : List ℕ) (found : List (Option Ending)) → i < length names
    → name ≡ get_or names i name
    → found ++ map ending_of (drop i names) ≡ map ending_of names
    → (found ++ ending_of name ∷ []) ++ map ending_of (drop (i + 1) names) ≡ map ending_of names
ending_more names i name found some at before =
    append_assoc found (ending_of name ∷ []) (map ending_of (drop (i + 1) names))
    ∙ ap (λ (ns : List (List ℕ)). found ++ map ending_of ns) (sym (cut names i name some at)) ∙ before

-- one more argument of a source, and one of another file
word_more : (names : List (List ℕ)) (i : ℕ) (name : List ℕ) (found : List ℕ) (b : Bool) → i < length names
    → name ≡ get_or names i name → is_source name ≡ b
    → found ++ source_words i (drop i names) ≡ source_words 0 names
    → (cond b (found ++ i ∷ []) found) ++ source_words (i + 1) (drop (i + 1) names) ≡ source_words 0 names
word_more names i name found true some at is before =
    append_assoc found (i ∷ []) (source_words (i + 1) (drop (i + 1) names))
    ∙ ap (λ (b : Bool). found ++ cond b (i ∷ source_words (i + 1) (drop (i + 1) names))
    (source_words (i + 1) (drop (i + 1) names))) (sym is)
    ∙ ap (λ (ns : List (List ℕ)). found ++ source_words i ns) (sym (cut names i name some at)) ∙ before
word_more names i name found false some at is before =
    ap (λ (b : Bool). found ++ cond b (i ∷ source_words (i + 1) (drop (i + 1) names))
    (source_words (i + 1) (drop (i + 1) names))) (sym is)
    ∙ ap (λ (ns : List (List ℕ)). found ++ source_words i ns) (sym (cut names i name some at)) ∙ before

pub sorted_none : (names contents : List (List ℕ))
    → IsSortedTo 0 names contents (record { endings = []; sources = []; includes = [] })
sorted_none names contents = record { endings = refl; sources = refl; words = refl; includes = refl; few = omega arith }

-- a file that is neither a source nor an include
passed : (names contents : List (List ℕ)) (i : ℕ) (name : List ℕ) (e : Option Ending) (s : Sorted) → i < length names
    → i < length contents
    → name ≡ get_or names i name → ending_of name ≡ e → is_source name ≡ false → is_include name ≡ false
    → IsSortedTo i names contents s
    → IsSortedTo (i + 1) names contents
    (record { endings = s.endings ++ e ∷ []; sources = s.sources; includes = s.includes })
passed names contents i name e s some more at is source include h = record {
  endings = subst (λ (o : Option Ending). (s.endings ++ o ∷ []) ++ map ending_of (drop (i + 1) names)
      ≡ map ending_of names) is (ending_more names i name s.endings some at h.endings);
  sources = file_passed is_source names contents i name (files_in s.sources) (sources_of names contents) some more at
      source h.sources;
  words = word_more names i name (words_in s.sources) false some at source h.words;
  includes = file_passed is_include names contents i name s.includes (includes_of names contents) some more at include
      h.includes;
  few = omega (arith, h.few);
}

-- the next file
pub sorted_more : (names contents : List (List ℕ)) (i : ℕ) (name bytes : List ℕ) (e : Option Ending) (s : Sorted)
    → i < length names → i < length contents
    → name ≡ get_or names i name → bytes ≡ get_or contents i bytes → ending_of name ≡ e → IsSortedTo i names contents s
    → IsSortedTo (i + 1) names contents (with_file e i (record { name = name; bytes = bytes }) s)
sorted_more names contents i name bytes (Some ending.Source) s some more at has is h =
    let file : SourceFile = record { name = name; bytes = bytes } in
    let source : SourceArgument = record { word = i; file = file } in
    let counts : is_source name ≡ true = ap is_a_source is in
    record {
      endings = subst (λ (o : Option Ending). (s.endings ++ o ∷ []) ++ map ending_of (drop (i + 1) names)
          ≡ map ending_of names) is (ending_more names i name s.endings some at h.endings);
      sources = file_kept is_source names contents i name bytes (files_in s.sources)
          (files_in (s.sources ++ source ∷ [])) (sources_of names contents) file some more at has counts refl
          (map-append (λ (source : SourceArgument). source.file) s.sources (source ∷ [])) h.sources;
      words = ap (λ (ws : List ℕ). ws ++ source_words (i + 1) (drop (i + 1) names))
          (map-append (λ (source : SourceArgument). source.word) s.sources (source ∷ []))
          ∙ word_more names i name (words_in s.sources) true some at counts h.words;
      includes = file_passed is_include names contents i name s.includes (includes_of names contents) some more at
          (ap is_an_include is) h.includes;
      few = omega (arith, h.few);
    }
sorted_more names contents i name bytes (Some ending.Include) s some more at has is h =
    let file : SourceFile = record { name = name; bytes = bytes } in
    record {
      endings = subst (λ (o : Option Ending). (s.endings ++ o ∷ []) ++ map ending_of (drop (i + 1) names)
          ≡ map ending_of names) is (ending_more names i name s.endings some at h.endings);
      sources = file_passed is_source names contents i name (files_in s.sources) (sources_of names contents) some more
          at (ap is_a_source is) h.sources;
      words = word_more names i name (words_in s.sources) false some at (ap is_a_source is) h.words;
      includes = file_kept is_include names contents i name bytes s.includes (s.includes ++ file ∷ [])
          (includes_of names contents) file some more at has (ap is_an_include is) refl refl h.includes;
      few = omega (arith, h.few, length-append s.includes (file ∷ []));
    }
sorted_more names contents i name bytes (Some ending.Object) s some more at has is h =
    passed names contents i name (Some ending.Object) s some more at is (ap is_a_source is) (ap is_an_include is) h
sorted_more names contents i name bytes (Some ending.Library) s some more at has is h =
    passed names contents i name (Some ending.Library) s some more at is (ap is_a_source is) (ap is_an_include is) h
sorted_more names contents i name bytes None s some more at has is h =
    passed names contents i name None s some more at is (ap is_a_source is) (ap is_an_include is) h

-- no file is left
endings_all : (names : List (List ℕ)) (i : ℕ) (found : List (Option Ending)) → i ≡ length names
    → found ++ map ending_of (drop i names) ≡ map ending_of names
    → found ≡ map ending_of names
endings_all names i found end h =
    sym (append-nil found) ∙ ap (λ (ns : List (List ℕ)). found ++ map ending_of ns)
    (sym (drop_all i names (omega (arith, end)))) ∙ h

pub sorted_all : (names contents : List (List ℕ)) (i : ℕ) (s : Sorted) → i ≡ length names
    → length contents ≡ length names → IsSortedTo i names contents s
    → IsSorted names contents s
sorted_all names contents i s end count h =
    let none : drop i names ≡ [] = drop_all i names (omega (arith, end)) in
    record {
      endings = endings_all names i s.endings end h.endings;
      sources = sym (append-nil (files_in s.sources))
          ∙ ap (λ (ns : List (List ℕ)). files_in s.sources ++ sources_of ns (drop i contents)) (sym none) ∙ h.sources;
      words = sym (append-nil (words_in s.sources))
          ∙ ap (λ (ns : List (List ℕ)). words_in s.sources ++ source_words i ns) (sym none) ∙ h.words;
      includes = sym (append-nil s.includes)
          ∙ ap (λ (ns : List (List ℕ)). s.includes ++ includes_of ns (drop i contents)) (sym none) ∙ h.includes;
      few = omega (arith, h.few, end);
      count = ap length (endings_all names i s.endings end h.endings) ∙ length-map names ending_of;
    }
