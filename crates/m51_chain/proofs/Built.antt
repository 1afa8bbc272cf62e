-- The report of a linked program, and what is kept and written of a source.
use Rattle.m51_chain.proofs.Common.{BoardState, Chain, IsSound, IsStarted, LayoutParts, Linked, List, ModuleParts, None}
use Rattle.m51_chain.proofs.Common.{Option, Run, Script, Some, SourceFile, [], append-nil, arith, get_or, inl, inr}
use Rattle.m51_chain.proofs.Common.{length, refl, suc, vectors, zero, ℕ, ◌+◌, ◌<◌, ◌∷◌, ◌≡◌, ◌≤◌}
use Rattle.std.proofs.Common.{min}
use Rattle.std.specs.List.{All, AllPairs, slice_index_or}
use Rattle.std.proofs.lemmas.List.Elements.{All-cons, All-head, All-nil, All-tail, Contains-get_or}
use Rattle.m51_module.specs.Chains.{ChainsAt, AreHeaviest}
use Rattle.m51_asm.specs.Answer.{IsAnswer, IsAnswerOf, answer_of_lines, content_or_faults, placed_or_fault}
use Rattle.m51_chain.specs.Programs.{IsReport, filled_by, IsMap, hex_kept}
use Rattle.m51_chain.specs.Assembles.{assembled_outcome}
use Rattle.m51_chain.specs.Outcome.{outcome_of, status_at, text_at}
use Rattle.m51_text.specs.Answer.{text_of, LineTree, TextTree}
use Rattle.m51_module.specs.declared.source.Row.{Row}
use Rattle.m51_print.specs.Listing.{listing_of, AreOf, IsRowOf, lines_of_files}
use Rattle.m51_records.specs.Spelling.{bytes_of}
use Rattle.m51_sim.specs.Report.{report_of}
use Rattle.m51_module.specs.Walks.{IsWalk}
use Rattle.m51_module.proofs.Units.{root_below, unit_below}
use Rattle.m51_print.specs.Map.{NamesUnits}
use Rattle.std.proofs.lemmas.List.Sums.{sum_by-cons}
use Rattle.std.specs.Prelude.{map}
use Rattle.m51_linker.specs.Link.{IsRunInMemory, IsReady}
use Rattle.m51_module.specs.declared.stack_bound.RootDepth.{RootDepth}
use Rattle.m51_module.specs.declared.stack_bound.StackBound.{StackBound}
use Rattle.m51_module.specs.declared.start.Start.TheVariants.{At}
use Rattle.m51_print.specs.Stack.{IsBoundOf}
use Rattle.m51_stackbound.specs.Bounds.{AreEach, IsBound, IsRootDepth}
use Rattle.m51_stackbound.specs.Units.{handlers}
use Rattle.std.specs.Str.Lines.{lines}
use Rattle.std.proofs.lemmas.List.{length-map}
use Rattle.m51_asm.specs.AnswerRows.{rows, rows_from}
use Rattle.m51_asm.specs.Assignment.{Assignment}
use Rattle.m51_asm.proofs.AnAssignment.{fits, fitting}
use Rattle.m51_module.specs.declared.source.Fault.{Fault}
use Rattle.m51_text.specs.Laws.{IsLineOf, bytes_in}
use Rattle.m51_text.proofs.Numbered.{lines_are_of_files}
use Rattle.m51_chain.specs.declared.work.Finish.TheVariants as ending
use Rattle.m51_asm.specs.Answer as answers
use Rattle.m51_text.specs.Answer as texts

-- ---- the report

-- of a linked program, by the board that is made of it
pub report_is : (linked : Linked) (hex : Option (List ℕ)) (script : Script) (steps : ℕ) (board : BoardState)
    (text : List ℕ) (keeps : Option (List ℕ))
    → IsStarted linked.layout linked.image script board → (map : IsMap linked text) → keeps ≡ hex_kept hex linked
    → IsReport linked hex script steps
    (outcome_of (record { keeps = keeps; text = text; ending = ending.Run board steps }))
unfolding status_at text_at report_of
report_is linked hex script steps board text keeps started map kept = record {
  sound = map.sound;
  chains = map.chains;
  heaviest = map.heaviest;
  is = rw (started.state, started.layout_is, started.image_is, started.script_is, map.is, kept) refl;
}

-- runs that ascend and end in program memory have at most as many bytes as follow their first
runs_below : (runs : List Run) (from : ℕ) → from ≤ 65536 → All (λ r. from ≤ r.first) runs → All IsRunInMemory runs
    → AllPairs (λ one two. one.first + one.len < two.first) runs → from + filled_by runs ≤ 65536
runs_below [] from most after inside ascending = omega (arith, most)
runs_below (run ∷ more) from most after inside ascending =
    let first : from ≤ run.first = All-head (λ (r : Run). from ≤ r.first) run more after in
    let own : IsRunInMemory run = All-head IsRunInMemory run more inside in
    let rest = runs_below more (run.first + run.len) own.inside
    (λ k d below. omega (arith, ascending 0 (suc k) d (omega arith) (omega (arith, below))))
    (All-tail IsRunInMemory run more inside)
    (λ i j d before below. ascending (suc i) (suc j) d (omega (arith, before)) (omega (arith, below))) in
    omega (arith, first, rest, sum_by-cons (λ (x : ℕ). x) run.len (map (λ (r : Run). r.len) more))

pub ready_few : (linked : Linked) → IsReady linked → filled_by linked.written ≤ 65536
ready_few linked ready =
    let all = runs_below linked.written 0 (omega arith) (λ k d below. omega arith) ready.runs ready.ascending in
    omega (arith, all)

-- ---- what is printed names units of its layout

-- the first of a walk, and those that follow
walk_units : (l : LayoutParts) (unit : ℕ) (more : List ℕ) → IsSound l → unit < length l.units → IsWalk l.edges unit more
    → All (λ u. u < length l.units) (unit ∷ more)
walk_units l unit [] sound some walk =
    All-cons (λ u. u < length l.units) unit [] some (All-nil (λ u. u < length l.units))
walk_units l unit (next ∷ more) sound some walk =
    All-cons (λ u. u < length l.units) unit (next ∷ more) some
    (walk_units l next more sound (sound.edges unit next walk.0).1 walk.1)

chains_name : (l : LayoutParts) (at : List ℕ) (chains : List Chain) → IsSound l → ChainsAt l at chains
    → All (NamesUnits l) chains
chains_name l at [] sound h = All-nil (NamesUnits l)
chains_name l [] (chain ∷ chains) sound h = absurd h
chains_name l (vector ∷ at) (chain ∷ chains) sound (inl lacks) = chains_name l at (chain ∷ chains) sound lacks.1
chains_name l (vector ∷ at) (chain ∷ chains) sound (inr (is, heaviest, others)) =
    let low = root_below l vector chain.root is in
    All-cons (NamesUnits l) chain chains
    (record { root = low; units = rw heaviest.units (walk_units l chain.root heaviest.more sound low heaviest.walk) })
    (chains_name l at chains sound others)

pub heaviest_name : (l : LayoutParts) (chains : List Chain) → IsSound l → AreHeaviest l chains
    → All (NamesUnits l) chains
heaviest_name l chains sound h = chains_name l vectors chains sound h

roots_below : (l : LayoutParts) (image vectors : List ℕ) (roots : List RootDepth)
    → AreEach (λ vector. IsRootDepth l image (At vector) vector) vectors roots
    → All (λ r. r.root < length l.units) roots
roots_below l image [] [] h = All-nil (λ (r : RootDepth). r.root < length l.units)
roots_below l image (v ∷ vectors) (r ∷ more) h =
    All-cons (λ (r : RootDepth). r.root < length l.units) r more (root_below l v r.root h.0.root)
    (roots_below l image vectors more h.1)
roots_below l image vectors roots h = absurd h

pub bound_of_layout : (l : LayoutParts) (image : List ℕ) (bound : StackBound) → IsBound l image bound
    → IsBoundOf l bound
bound_of_layout l image bound is = record {
  procs = λ k d low. unit_below l (get_or bound.procs k d).at (get_or bound.procs k d).unit
      (is.procs (get_or bound.procs k d) (Contains-get_or bound.procs k d low)).unit;
  roots = rw is.roots
      (All-cons (λ (r : RootDepth). r.root < length l.units) is.reset is.interrupts
      (root_below l 0 is.reset.root is.reset_is.root)
      (roots_below l image (handlers l) is.interrupts is.interrupts_are));
}

-- ---- what is kept and written of a source

-- an object that is kept, and a listing that is written
pub listed : (files : List (List ℕ)) (source : SourceFile) (includes : List SourceFile) (parts : ModuleParts)
    (rows : List Row) (object text : List ℕ)
    → object ≡ bytes_of parts → text ≡ listing_of source includes rows
    → outcome_of (record { keeps = Some object; text = text; ending = ending.Ran })
    ≡ assembled_outcome files source includes (answers.Gives parts rows)
unfolding status_at text_at
listed files source includes parts rows object text kept is =
    rw (kept, is, append-nil (listing_of source includes rows)) refl

-- what content gives has the rows of the lines
module _ (file : List ℕ) (ls : List LineTree) (a : Assignment) (parts : ModuleParts) (found : List Row) where
  content_rows : (faults : List Fault) → answers.Gives parts found ≡ content_or_faults file ls a faults
      → found ≡ rows ls a
  content_rows [] h = cc h
  content_rows (fault ∷ faults) h = absurd (cc h)

  placed_rows : (fault : Option Fault) → answers.Gives parts found ≡ placed_or_fault file ls a fault → found ≡ rows ls a
  placed_rows (Some fault) h = absurd (cc h)
  placed_rows None h = content_rows _ h

  answer_rows : answers.Gives parts found ≡ answer_of_lines file ls a → found ≡ rows ls a
  unfolding answer_of_lines
  answer_rows h = placed_rows _ h

-- the lines of a file of a source
file_lines : (source : SourceFile) (includes : List SourceFile) (file : ℕ) → file ≤ length includes
    → slice_index_or (lines_of_files source includes) file [] ≡ lines (bytes_in source includes file)
file_lines source includes zero within = refl
file_lines source [] (suc k) within = absurd (omega (arith, within))
file_lines source (include ∷ includes) (suc zero) within = refl
file_lines source (include ∷ includes) (suc (suc k)) within =
    file_lines include includes (suc k) (omega (arith, within))

few_bytes : (n : ℕ) → min n 3 ≤ 3
few_bytes n = omega arith

module _ (source : SourceFile) (includes : List SourceFile) where
  row_of_line : (row : Row) → row.count ≤ 3 → IsLineOf source includes row.file row.line
      → IsRowOf (lines_of_files source includes) row
  row_of_line row few line = record {
    file = omega (arith, line.given, length-map includes (λ (f : SourceFile). lines f.bytes));
    first = line.first;
    last = rw (file_lines source includes row.file line.given) line.last;
    count = few;
  }

  each_row : (all : List LineTree) (a : Assignment) (k : ℕ) (ls : List LineTree)
      → All (λ l. IsLineOf source includes l.file l.line) ls
      → All (IsRowOf (lines_of_files source includes)) (rows_from all a k ls)
  each_row all a k [] h = All-nil (IsRowOf (lines_of_files source includes))
  each_row all a k (l ∷ ls) h =
      All-cons (IsRowOf (lines_of_files source includes)) _ (rows_from all a (suc k) ls)
      (row_of_line _ (few_bytes _) (All-head (λ l. IsLineOf source includes l.file l.line) l ls h))
      (each_row all a (suc k) ls (All-tail (λ l. IsLineOf source includes l.file l.line) l ls h))

  rows_by : (t : TextTree) (parts : ModuleParts) (found : List Row) → text_of source includes ≡ t
      → IsAnswerOf source.name t (answers.Gives parts found) → AreOf source includes found
  rows_by (texts.Faults faults) parts found is h = absurd (cc h)
  rows_by (texts.Lines ls) parts found is h =
      let a = fitting ls in
      let same : found ≡ rows ls a = answer_rows source.name ls a parts found (h a (fits ls)) in
      record { each = rw same (each_row ls a 0 ls (lines_are_of_files source includes ls is)) }

  -- the rows that the assembler answers are those of its source and includes
  pub answered_rows : (parts : ModuleParts) (found : List Row) → IsAnswer source includes (answers.Gives parts found)
      → AreOf source includes found
  answered_rows parts found h = rows_by (text_of source includes) parts found refl h
