-- What is known of the modules that are linked of files of bytes, of their control lines, graph and layout.
use Rattle.m51_build_proof.proofs
use proofs.Common.{nat_tests, same_Ok, Control, Refusal, ModuleParts, segments_of, L6, L7, GraphParts, IsGraph, leads}
use proofs.Common.{SourceFile, InputError, InputsTree, controls_in, script_in, Linked, LayoutParts, BuildJob}
use proofs.Common.{build_files, Script, Placing, All, All-nil, All-cons, All-take, option_map, AreResolved, resolved_of}
use proofs.Common.{Row, IsBytes, fit_back, IsRead, module_takes, AreAnswered, ProgramFiles, script_content}
use proofs.Common.{word_contents, AreOfBytes, IsAccepted, IsBuilt, MeetsRules, IsByteList, IsValid, IsRootAt, Program}
use proofs.Common.{of_located, located_of, MOST_CONTROL_LINES, JoinedSegment, edges_of, fixup_edges, bad_line}
use proofs.Common.{lost_segment, code_segments, unit_titles, unless_none, placed_whole, ending_of, on_value, IsSound}
use proofs.PieceBytes.{every_flat, HasBytes, object_pieces, source_pieces}
use proofs.Verdicts.{rules_of_program}
use Rattle.m51_graph.specs.Graphs.{graph_of, cyclic_from, first_under_two, lacks_reset, on_cycles, parts_of}
use Rattle.m51_inputs.specs.Inputs.{inputs_of}
use Rattle.std.proofs.Common.{◌≡◌, ℕ, suc, ◌+◌, ◌≤◌, Bool, cond, nat_lt, List, [], ◌∷◌, length, Option, Some, None, Ok}
use Rattle.std.proofs.Common.{Err, refl, sym, subst, arith, Result, zero, ◌<◌, ◌++◌}
use Rattle.m51_control.specs.Controls.{AreKept, IsAllowed, Read, controls_of, controls_from, with_line}
use Rattle.m51_resolve.proofs.Answering.{meets}
use Rattle.m51_resolve.proofs.Choices.{one_choice}
use Rattle.m51_resolve.specs.Choice.{Chooses, Ends, Takes, chosen_of, members_of}
use Rattle.m51_cells.proofs.Members.{every_in, every_of, every_right, in_left, Every, all_every, every_all}
use Rattle.m51_cells.proofs.Members.{every_append, every_weaker}
use Rattle.m51_asm.specs.Answer.{AnswerTree, Gives, IsAnswer, Faults}
use Rattle.std.specs.Str.Lines.{lines}
use Rattle.m51_cells.specs.Blanks.{is_skipped}
use Rattle.m51_control.specs.Grammar.{control_of}
use Rattle.m51_control.specs.Written.{Says}
use Rattle.m51_control.proofs.LineLaws.{line_law}
use Rattle.m51_graph.proofs.Judged.{graph_judged}
use Rattle.std.proofs.lemmas.List.{length-map}
use Rattle.m51_graph.proofs.Within.{fixups_within, parts_fit, titles_are}
use Rattle.m51_records.specs.declared.types.TheConstants.{LIBRARY_HEADER}
use Rattle.m51_records.specs.Reading.{module_at, one_at}
use Rattle.m51_records.specs.Spelling.{records_in}
use Rattle.m51_records.proofs.Tools.{on_ok, ok_is}
use Rattle.m51_library.specs.Reading.{count_in, library_of, module_in, modules_at, modules_of, nothing_after}
use Rattle.m51_library.specs.Spelling.{count_record}
use Rattle.m51_library.proofs.Accepting.{makes_all}
use Rattle.m51_library.proofs.LibraryLaws.{first_takes}
use Rattle.m51_jobs.specs.declared.endings.Ending.{Ending}
use Rattle.m51_inputs.specs.Files.{source_words}
use Rattle.m51_inputs.specs.Objects.{linked_by, linked_from, with_library, with_module, with_source, or_library}
use Rattle.m51_inputs.specs.Sources.{AreAnswers, modules_in, faults_in, unless_faults}
use Rattle.m51_asm.proofs.ValidParts.{answers_are_valid}
use Rattle.m51_linker.proofs.Reset.{reset}
use Rattle.m51_chain.specs.Linking.{sole_program}
use Rattle.m51_place.proofs.Ranks.{graph_is}
use Rattle.m51_place.proofs.SoundLayout.{sound as layout_sound}
use Rattle.m51_script.specs.Reading.{plain_script}
use Rattle.m51_control.specs.declared.error.ControlError.TheVariants.{Limit as TooMany}
use Rattle.m51_jobs.specs.declared.endings.Ending.TheVariants as ending
use Rattle.m51_inputs.specs.Objects as objects

says_allowed : (word inside : List ℕ) (control : Control) → Says word inside control → IsAllowed control
says_allowed word inside control h = grind arith

allowed : (line : List ℕ) (control : Control) → control_of line ≡ Some control → IsAllowed control
allowed line control h = let w = (line_law line control).0 h in says_allowed w.word w.inside control w.says

abbrev IsAllowedLine : ℕ × Control → Type 0
IsAllowedLine entry = IsAllowed entry.1

-- at most `most` lines are read, each as a control that is allowed
abbrev AreAllowed : ℕ → Read → Type 0
AreAllowed most (Ok controls) = (length controls ≤ most) × All IsAllowedLine controls
AreAllowed most (Err error) = Unit {0}

with_one : (number most : ℕ) (line : List ℕ) (o : Option Control) (after : Read) → control_of line ≡ o
    → AreAllowed most after → AreAllowed (suc most) (with_line number o after)
with_one number most line o after found h = grind (arith, allowed line, All-cons IsAllowedLine)

skipped : (b : Bool) (number most : ℕ) (line : List ℕ) (after : Read) → AreAllowed most after
    → AreAllowed (suc most) (cond b after (with_line number (control_of line) after))
skipped b number most line after h = grind (arith, with_one number most line (control_of line) after refl)

are_allowed : (number : ℕ) (all : List (List ℕ)) → AreAllowed (length all) (controls_from number all)
are_allowed number [] = (omega arith, All-nil IsAllowedLine)
are_allowed number (line ∷ more) =
    skipped (is_skipped line) number (length more) line (controls_from (number + 1) more)
    (are_allowed (number + 1) more)

within : (b : Bool) (all : List (List ℕ)) (controls : List (ℕ × Control)) → nat_lt MOST_CONTROL_LINES (length all) ≡ b
    → cond b (Err TooMany) (controls_from 1 all) ≡ Ok controls → AreKept controls
within b all controls few h = grind (arith, nat_tests, are_allowed 1 all)

pub controls_kept : (bytes : List ℕ) (controls : List (ℕ × Control)) → controls_of bytes ≡ Ok controls
    → AreKept controls
controls_kept bytes controls h = within (nat_lt MOST_CONTROL_LINES (length (lines bytes))) (lines bytes) controls refl h

pub chosen_resolved : (given : List ModuleParts) (libraries : List (List ModuleParts)) (modules : List ModuleParts)
    → resolved_of given libraries ≡ Ok modules → AreResolved modules
chosen_resolved given libraries modules h = grind (arith, meets)

no_cycles : (titles : List (List ℕ)) → on_cycles titles ≡ None → titles ≡ []
no_cycles titles h = grind arith

pub graph_kept : (modules : List ModuleParts) (controls : List (ℕ × Control)) (g : GraphParts) → AreResolved modules
    → graph_of modules controls ≡ Ok g → IsGraph g
graph_kept modules controls g resolved h =
    let segments : List JoinedSegment = segments_of modules in
    let titles : List (List ℕ) = unit_titles segments in
    let parts : GraphParts = parts_of segments controls (edges_of titles controls (fixup_edges modules)) in
    let marked = unless_none (option_map L6 (lost_segment titles segments)) _ g h in
    let lines = unless_none (option_map L7 (bad_line titles segments controls (fixup_edges modules))) _ g marked.1 in
    let reset = unless_none (lacks_reset parts.roots) _ g lines.1 in
    let free = unless_none (on_cycles (cyclic_from (leads parts.edges) 0 titles)) _ g reset.1 in
    let one = unless_none (first_under_two (leads parts.edges) parts.roots parts.own 0 titles) _ g free.1 in
    let few : length titles ≤ 1000 =
    omega (arith, length-map (code_segments segments) (λ (j : JoinedSegment). j.title), resolved.few_units) in
    subst IsGraph (same_Ok {E = Refusal} parts g one.1)
    (graph_judged titles parts (parts_fit segments controls (fixup_edges modules) few (fixups_within modules))
    (titles_are segments)
    (no_cycles _ free.0) one.0)

lines_kept : (control : Option (List ℕ)) (controls : List (ℕ × Control)) → controls_in control ≡ Ok controls
    → AreKept controls
lines_kept control controls h = grind (arith, controls_kept)

source_known : (source : SourceFile) (includes : List SourceFile) (m : ModuleParts) (rows : List Row)
    → IsAnswer source includes (Gives m rows) → HasBytes m
source_known source includes m rows h =
    record {
      valid = (answers_are_valid source includes m rows h).valid;
      pieces = source_pieces source includes m rows h;
    }

-- bytes, as readers of objects have them
bytes_are : (file : List ℕ) → Every (λ byte. byte < 256) file → IsBytes file
bytes_are [] h = tt
bytes_are (byte ∷ more) h = (h.0, bytes_are more h.1)

-- the sources
sources_known : (includes sources : List SourceFile) (answers : List AnswerTree) → AreAnswers includes sources answers
    → Every HasBytes (modules_in answers)
sources_known includes [] [] h = tt
sources_known includes (source ∷ sources) (Gives parts rows ∷ answers) h =
    (source_known source includes parts rows h.0, sources_known includes sources answers h.1)
sources_known includes (source ∷ sources) (Faults faults ∷ answers) h = sources_known includes sources answers h.1
sources_known includes sources answers h = absurd h

-- an object
read_known : (bytes : List ℕ) (m : ModuleParts) (rest : List ℕ) → IsBytes bytes → IsRead bytes m rest → HasBytes m
read_known bytes m rest fits is = record { valid = is.valid; pieces = object_pieces bytes m rest fits is }

object_known : (file : List ℕ) (m : ModuleParts) → IsBytes file → module_in file ≡ Ok m → HasBytes m
unfolding module_in
object_known file m bytes h =
    on_ok (module_at (length file) 0 file) (nothing_after (length file)) m (HasBytes m)
    (λ found read ended. subst HasBytes (grind arith)
    (read_known file found.0 found.1 bytes (module_takes (length file) 0 file found bytes read))) h

-- a library
modules_known_at : (count total number : ℕ) (bytes : List ℕ) (found : List ModuleParts × List ℕ) → IsBytes bytes
    → modules_at count total number bytes ≡ Ok found → Every HasBytes found.0
unfolding modules_at
modules_known_at zero total number bytes found fits h = grind arith
modules_known_at (suc count) total number bytes found fits h =
    on_ok (module_at total number bytes) _ found (Every HasBytes found.0) (λ one read later.
    let is : IsRead bytes one.0 one.1 = module_takes total number bytes one fits read in
    let first : HasBytes one.0 = read_known bytes one.0 one.1 fits is in
    let rest : IsBytes one.1 = grind (arith, fit_back) in
    on_ok (modules_at count total (number + records_in one.0) one.1) _ found (Every HasBytes found.0) (grind (
      arith,
      ok_is,
      modules_known_at count total (number + records_in one.0) one.1,
    )) later) h

file_known : (file : List ℕ) (ms : List ModuleParts) → IsBytes file → modules_of file ≡ Ok ms → Every HasBytes ms
unfolding modules_of
file_known file ms bytes h =
    on_ok (one_at LIBRARY_HEADER count_in (length file) 0 file) _ ms (Every HasBytes ms) (λ count read later.
    let is : file ≡ count_record count.0 ++ count.1 = grind (arith, first_takes) in
    let rest : IsBytes count.1 = grind arith in
    on_ok (modules_at count.0 (length file) 1 count.1) _ ms (Every HasBytes ms)
    (grind (arith, length, modules_known_at)) later) h

library_known : (file : List ℕ) (ms : List ModuleParts) → IsBytes file → library_of file ≡ Ok ms → Every HasBytes ms
library_known file ms bytes h = grind (arith, makes_all, file_known)

-- what the words of a program give
record AreLinked (l : objects.Linked) : Type 0 where
  modules : Every HasBytes l.modules
  libraries : Every (Every HasBytes) l.libraries

-- what the words after give
abbrev AreFollowed : (List ModuleParts → Result objects.Linked InputError) → Type 0
AreFollowed after = (sources : List ModuleParts) (l : objects.Linked) → Every HasBytes sources → after sources ≡ Ok l
    → AreLinked l

module_first : (r : Result objects.Linked InputError) (m : ModuleParts) (l : objects.Linked) → HasBytes m
    → ((k : objects.Linked) → r ≡ Ok k → AreLinked k) → with_module r m ≡ Ok l → AreLinked l
module_first r m l valid rest h = grind arith

library_first : (r : Result objects.Linked InputError) (ms : List ModuleParts) (l : objects.Linked)
    → Every HasBytes ms → ((k : objects.Linked) → r ≡ Ok k → AreLinked k) → with_library r ms ≡ Ok l → AreLinked l
library_first r ms l valid rest h = grind arith

source_first : (sources : List ModuleParts) (after : List ModuleParts → Result objects.Linked InputError)
    (l : objects.Linked) → Every HasBytes sources → AreFollowed after → with_source sources after ≡ Ok l → AreLinked l
source_first [] after l valid rest h = rest [] l valid h
source_first (m ∷ sources) after l valid rest h = grind (arith, module_first, source_first sources)

word_first : (o : Option Ending) (word : ℕ) (file : List ℕ) (sources : List ModuleParts)
    (after : List ModuleParts → Result objects.Linked InputError) (l : objects.Linked)
    → IsBytes file → Every HasBytes sources → AreFollowed after → linked_by o word file sources after ≡ Ok l
    → AreLinked l
word_first (Some ending.Source) word file sources after l bytes valid rest h = source_first sources after l valid rest h
word_first (Some ending.Object) word file sources after l bytes valid rest h =
    on_value (objects.or_object word (module_in file)) _ l (AreLinked l)
    (λ m is later. module_first (after sources) m l (object_known file m bytes (grind arith)) (grind arith) later) h
word_first (Some ending.Library) word file sources after l bytes valid rest h =
    on_value (or_library word (library_of file)) _ l (AreLinked l)
    (λ ms is later.
    library_first (after sources) ms l (library_known file ms bytes (grind arith)) (grind arith) later) h
word_first o word file sources after l bytes valid rest h = rest sources l valid h

words_linked : (word : ℕ) (names contents : List (List ℕ)) (sources : List ModuleParts) (l : objects.Linked)
    → Every IsBytes contents → Every HasBytes sources → linked_from word names contents sources ≡ Ok l → AreLinked l
words_linked word (name ∷ names) (file ∷ contents) sources l bytes valid h =
    word_first (ending_of name) word file sources (linked_from (word + 1) names contents) l bytes.0 valid
    (λ others k all is. words_linked (word + 1) names contents others k bytes.1 all is) h
words_linked word names contents sources l bytes valid h = grind arith

-- what is known of inputs
pub record AreInputs (script : Option (List ℕ)) (inputs : InputsTree) : Type 0 where
  pub modules : Every HasBytes inputs.modules
  pub libraries : Every (Every HasBytes) inputs.libraries
  pub controls : AreKept inputs.controls
  pub script_is : script_in script ≡ Ok inputs.script

from_answers : (files contents : List (List ℕ)) (control script : Option (List ℕ)) (answers : List AnswerTree)
    (inputs : InputsTree) → Every IsBytes contents → Every HasBytes (modules_in answers)
    → inputs_of files contents control script answers ≡ Ok inputs → AreInputs script inputs
unfolding inputs_of
from_answers files contents control script answers inputs bytes valid h =
    on_value (unless_faults (faults_in (source_words 0 files) answers) (modules_in answers)) _ inputs
    (AreInputs script inputs) (λ sources one h1.
    on_value (linked_from 0 files contents sources) _ inputs (AreInputs script inputs) (λ linked two h2.
    let known = words_linked 0 files contents sources linked bytes (grind arith) two in
    grind (arith, lines_kept control, known)) h1) h

pub inputs_known : (files : ProgramFiles) (contents : List (List ℕ)) (inputs : InputsTree) → AreOfBytes contents
    → AreAnswered files contents (Ok inputs) → AreInputs (script_content files contents) inputs
inputs_known files contents inputs bytes h =
    let words : List (List ℕ) = word_contents files contents in
    let each = all_every IsByteList words (All-take IsByteList (length files.words) contents bytes) in
    from_answers files.words words _ _ h.answers inputs
    (every_weaker IsByteList IsBytes words (λ file k. bytes_are file (all_every (λ byte. byte < 256) file k)) each)
    (grind (arith, sources_known)) (sym h.is)

-- all that are chosen are given or members of libraries
all_chosen : (left chosen all : List ModuleParts) → Chooses left chosen all → Every HasBytes left
    → Every HasBytes chosen → Every HasBytes all
all_chosen left chosen all (Ends none) h k = k
all_chosen left chosen all (Takes front back m is passed needed more) h k =
    let parts : Every HasBytes (front ++ m ∷ back) = rw is at h in
    let behind = every_right HasBytes front (m ∷ back) parts in
    let before = every_of HasBytes front
    (λ x i. every_in HasBytes (front ++ m ∷ back) x parts (in_left front (m ∷ back) x i)) in
    all_chosen (front ++ back) (chosen ++ m ∷ []) all more (every_append HasBytes front back before behind.1)
    (every_append HasBytes chosen (m ∷ []) k (behind.0, tt))

chosen_all : (given : List ModuleParts) (libraries : List (List ModuleParts)) (modules : List ModuleParts)
    → Every HasBytes given → Every (Every HasBytes) libraries
    → resolved_of given libraries ≡ Ok modules → Every HasBytes modules
chosen_all given libraries modules valid all h =
    let members = members_of libraries in
    subst (Every HasBytes) (grind arith)
    (all_chosen members given (chosen_of given members) (one_choice given members).outcome
    (every_flat HasBytes (λ ms. ms) libraries (λ ms i. every_in (Every HasBytes) libraries ms all i)) valid)

pub record AreGiven (modules : List ModuleParts) (controls : List (ℕ × Control)) : Type 0 where
  pub valid : All IsValid modules
  pub bytes : Every HasBytes modules
  pub resolved : AreResolved modules
  pub kept : AreKept controls

-- of inputs that are known
given : (script : Option (List ℕ)) (inputs : InputsTree) (modules : List ModuleParts) → AreInputs script inputs
    → resolved_of inputs.modules inputs.libraries ≡ Ok modules → AreGiven modules inputs.controls
given script inputs modules known h =
    let all = chosen_all inputs.modules inputs.libraries modules known.modules known.libraries h in
    record {
      valid = every_all IsValid modules (every_weaker HasBytes IsValid modules (λ m is. is.valid) all);
      bytes = all;
      resolved = chosen_resolved inputs.modules inputs.libraries modules h;
      kept = known.controls;
    }

pub modules_known : (files : ProgramFiles) (contents : List (List ℕ)) (inputs : InputsTree) (modules : List ModuleParts)
    → AreOfBytes contents → AreAnswered files contents (Ok inputs)
    → resolved_of inputs.modules inputs.libraries ≡ Ok modules → AreGiven modules inputs.controls
modules_known files contents inputs modules bytes read h =
    given _ inputs modules (inputs_known files contents inputs bytes read) h

-- ---- the layout

-- the layout is sound, and one of its units is the root at 0000H
pub record IsStartable (l : LayoutParts) : Type 0 where
  pub sound : IsSound l
  pub root : (unit : ℕ) × IsRootAt l 0 unit

pub startable : (inputs : InputsTree) (p : Program) → MeetsRules inputs p → AreGiven p.modules inputs.controls
    → IsStartable p.placing.layout
startable inputs p rules k =
    let modules = p.modules in
    let controls = inputs.controls in
    let g = p.graph in
    let graph = graph_kept modules controls g k.resolved rules.drawn in
    let of = of_located g (length (segments_of modules)) (located_of modules controls g) p.placing rules.placed in
    let whole = placed_whole modules controls g of.located rules.drawn k.valid k.resolved k.kept of.is in
    record {
      sound = subst (λ (x : Placing). IsSound x.layout) of.placing
          (layout_sound (segments_of modules) controls g (graph_is modules controls g rules.drawn) graph of.located
          whole);
      root = reset modules controls g p.placing rules.drawn rules.placed k.valid k.resolved k.kept graph;
    }

pub files_startable : (files : ProgramFiles) (contents : List (List ℕ)) (inputs : InputsTree) (p : Program)
    → AreOfBytes contents → AreAnswered files contents (Ok inputs) → MeetsRules inputs p
    → IsStartable p.placing.layout
files_startable files contents inputs p bytes read rules =
    startable inputs p rules (modules_known files contents inputs p.modules bytes read rules.chosen)

-- of one module by itself
pub sole_startable : (m : ModuleParts) (p : Program) → HasBytes m → sole_program m ≡ Ok p
    → IsStartable p.placing.layout
sole_startable m p is h =
    let inputs : InputsTree = record { modules = m ∷ []; libraries = []; controls = []; script = plain_script } in
    let rules = rules_of_program inputs p h in
    let none : AreKept [] = record { few = omega arith; each = All-nil IsAllowedLine } in
    startable inputs p rules
    (given None inputs p.modules (record { modules = (is, tt); libraries = tt; controls = none; script_is = refl })
    rules.chosen)

-- ---- a build

pub known : (job : BuildJob) (contents : List (List ℕ)) (a : IsAccepted job contents) → AreOfBytes contents
    → AreGiven a.program.modules a.inputs.controls
known job contents a bytes =
    modules_known (build_files job) contents a.inputs a.program.modules bytes a.read a.rules.chosen

pub layout_startable : (job : BuildJob) (contents : List (List ℕ)) (script : Script) (linked : Linked)
    → IsBuilt job contents script linked → AreOfBytes contents → IsStartable linked.layout
layout_startable job contents script linked b bytes =
    let a = b.accepted in
    rw b.linked_is.layout (files_startable (build_files job) contents a.inputs a.program bytes a.read a.rules)
