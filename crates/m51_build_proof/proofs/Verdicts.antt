-- The outcome of a build, by what its files give, by the rules of the link, and by what placing decides; and what each
-- refusal keeps.
use Rattle.m51_build_proof.proofs
use proofs.Common.{and_then, same_Ok, Control, one_text, GraphParts, segments_of, InputError, InputsTree, Linked}
use proofs.Common.{Refusal, L12, L6, L7, L8, ModuleParts, Placing, Script, BuildJob, IsBuildOutcome, build_files}
use proofs.Common.{link_outcome, option_map, one_for_files, IsLinked, Program, placed_of, joined_of, checked_of}
use proofs.Common.{placing_of, resolved_of, first_refusal, unless_refused, AreAnswered, Given, IsGivenOutcome}
use proofs.Common.{ProgramFiles, Refused, control_content, script_content, word_contents, IsReport, IsAccepted, IsBuilt}
use proofs.Common.{IsRun, MeetsRules, AreOfBytes, RunEvent, Event, unless_none, Status, on_value, one_linked, leads}
use proofs.Common.{false≢true, refusal_text, after_blank, list_any, bytes_eq, edges_of, fixup_edges, bad_line}
use proofs.Common.{lost_segment, unit_titles, LayoutParts, StackBound, StackError, ScriptError, script_outcome}
use Rattle.m51_graph.specs.Graphs.{graph_of, unless, cyclic_from, first_under_two, on_cycles, parts_of, under_two}
use Rattle.m51_chain.specs.InputRefusals.{input_outcome}
use Rattle.m51_chain.specs.Outcome.{Outcome, status_by, status_if}
use Rattle.std.proofs.Common.{arith, ◌≡◌, inl, inr, ℕ, Bool, true, false, List, Option, Some, None, Result, Ok, Err}
use Rattle.std.proofs.Common.{refl, sym, ap, subst, ◌∙◌, ◌++◌, codes, ◌+◌, cond, [], ◌∷◌, ◌⊎◌, nat_eq, take}
use Rattle.m51_chain.specs.Linking.{Follows, IsInputsOutcome, IsProgramOutcome, Unlinked, program_in}
use Rattle.m51_linker.specs.declared.checking.Spot.{Spot}
use Rattle.m51_linker.specs.Broken.{broken_at, broken_rule}
use Rattle.m51_sim.specs.Report.{report_of}
use Rattle.m51_build_proof.specs.Headline.{LinksExactly, PrintsRecord}
use Rattle.m51_build_proof.specs.Overlay.{ReachesPlacing, ComesToPlacing, L12OnlyAtPlacing}
use Rattle.m51_resolve.specs.Choice.{chosen_of, members_of}
use Rattle.std.proofs.lemmas.Slice.Eq.{bytes_eq-Decides}
use Rattle.std.proofs.lemmas.List.{append_cancel_left, append_cancel_right}
use Rattle.m51_module.specs.declared.linked.Quantity.{Quantity}
use Rattle.m51_chain.specs.declared.status.Status.TheVariants.{Link}
use Rattle.m51_chain.specs.Expected.{MayKeep}
use Rattle.m51_chain.specs.Analyses.{bound_outcome, text_outcome}
use Rattle.m51_jobs.specs.declared.job.LibraryJob.{LibraryJob}
use Rattle.m51_jobs.specs.declared.job.Operation.{Operation}
use Rattle.m51_chain.specs.Edits.{edits_of, object_edits}
use Rattle.m51_chain.specs.Libraries.{edited_library, either, library_outcome_of, library_work, operated, with_library}
use Rattle.m51_chain.specs.declared.status.Status.TheVariants as status

-- ---- the program of a graph that is drawn

module _ (modules : List ModuleParts) (controls : List (ℕ × Control)) (g : GraphParts) where
  abbrev made : Placing → Program
  made placing = record { modules = modules; graph = g; placing = placing }

  -- it has the placing
  pub record IsPlacedProgram (p : Program) : Type 0 where
    pub placing : Placing
    pub placed : placing_of modules controls g ≡ Ok placing
    pub fields : broken_rule modules placing ≡ None
    pub is : made placing ≡ p

  pub has_placing : (p : Program) → placed_of modules controls g ≡ Ok p → IsPlacedProgram p
  has_placing p h =
      on_value (placing_of modules controls g) _ p (IsPlacedProgram p) (λ placing placed later.
      let u = unless_none (broken_rule modules placing) (Ok (made placing)) p later in
      record { placing = placing; placed = placed; fields = u.0; is = same_Ok {E = Refusal} (made placing) p u.1 }) h

  -- where L12 comes, it is of placing
  not_broken : (placing : Placing) (name : List ℕ) (first : Option Spot)
      → unless (option_map (broken_at (segments_of modules)) first) (Ok (made placing)) ≡ Err (L12 name) → ⊥
  not_broken placing name first h = grind arith

  unplaced : (name : List ℕ) (found : Result Placing Refusal) → placing_of modules controls g ≡ found
      → and_then found (checked_of modules g) ≡ Err (L12 name) → placing_of modules controls g ≡ Err (L12 name)
  unplaced name found is h = grind (arith, not_broken)

  pub lacks_placing : (name : List ℕ) → placed_of modules controls g ≡ Err (L12 name)
      → placing_of modules controls g ≡ Err (L12 name)
  lacks_placing name h = unplaced name (placing_of modules controls g) refl h

  pub stays_unplaced : (name : List ℕ) → placing_of modules controls g ≡ Err (L12 name)
      → placed_of modules controls g ≡ Err (L12 name)
  stays_unplaced name h = rw h

-- the rules, one by one, and the program
module _ (inputs : InputsTree) (p : Program) where
  pub program_of_rules : MeetsRules inputs p → program_in inputs ≡ Ok p
  program_of_rules r = rw (r.chosen, r.drawn, r.placed, r.fields)

  pub rules_of_program : program_in inputs ≡ Ok p → MeetsRules inputs p
  rules_of_program h =
      on_value (resolved_of inputs.modules inputs.libraries) (joined_of inputs.controls) p (MeetsRules inputs p)
      (λ modules chosen h1.
      on_value (graph_of modules inputs.controls) _ p (MeetsRules inputs p) (λ g drawn h2.
      let has = has_placing modules inputs.controls g p h2 in
      subst (MeetsRules inputs) has.is
      (record { chosen = chosen; drawn = drawn; placed = has.placed; fields = has.fields })) h1) h

-- ---- the statuses

-- no refusal of a rule has these statuses
abbrev pub is_run : Status → Bool
is_run status.Ran = true
is_run status.Event = true
is_run other = false

pub not_run : (why : Refusal) (outcome : Outcome) → outcome ≡ link_outcome why → IsRun outcome → ⊥
not_run why outcome is run = grind arith

pub not_link : (event : Option RunEvent) → status_by event ≡ status.Link → ⊥
not_link event h = grind arith

not_run_of_files : (files : List (List ℕ)) (error : InputError) (outcome : Outcome)
    → outcome ≡ input_outcome files error → IsRun outcome → ⊥
not_run_of_files files error outcome is run = grind arith

pub not_link_of_files : (files : List (List ℕ)) (error : InputError) (outcome : Outcome)
    → outcome ≡ input_outcome files error → outcome.status ≡ status.Link → ⊥
not_link_of_files files error outcome is h = grind arith

-- ---- the outcome

-- what comes of a build that has these inputs
abbrev pub IsOf : BuildJob → InputsTree → Outcome → Type 0
IsOf job inputs outcome =
    IsProgramOutcome (program_in inputs) (λ linked. IsReport linked job.hex inputs.script job.steps) outcome

module _ (files : ProgramFiles) (Is : InputsTree → Outcome → Type 0) (given : Result InputsTree InputError)
    (outcome : Outcome) where
  of_given : (inputs : InputsTree) → given ≡ Ok inputs → IsGivenOutcome files Is given outcome → Is inputs outcome
  of_given inputs same h = grind arith

  of_refused : (error : InputError) → given ≡ Err error → IsGivenOutcome files Is given outcome
      → outcome ≡ input_outcome files.words error
  of_refused error same h = grind arith

module _ (program : Result Program Refusal) (Is : Linked → Outcome → Type 0) (outcome : Outcome) where
  pub of_stopped : (why : Refusal) → program ≡ Err why → IsProgramOutcome program Is outcome
      → outcome ≡ link_outcome why
  of_stopped why stopped h = grind arith

  of_linked : (p : Program) (linked : Linked) → program ≡ Ok p → IsLinked p linked
      → IsProgramOutcome program Is outcome → Is linked outcome
  of_linked p linked goes l h = grind (arith, one_linked p)

module _ (job : BuildJob) (contents : List (List ℕ)) (outcome : Outcome) (h : IsBuildOutcome job contents outcome) where
  abbrev Is : InputsTree → Outcome → Type 0
  Is inputs out = IsInputsOutcome (λ script linked. IsReport linked job.hex script job.steps) inputs out

  -- files give one answer
  given_is : (given : Result InputsTree InputError) → AreAnswered (build_files job) contents given → h.given ≡ given
  given_is given read =
      let files : ProgramFiles = build_files job in
      let one = one_for_files one_text files.words (word_contents files contents) (control_content files contents)
      (script_content files contents) in
      one.only h.given h.answer ∙ sym (one.only given read)

  of_inputs : (inputs : InputsTree) → AreAnswered (build_files job) contents (Ok inputs) → IsOf job inputs outcome
  of_inputs inputs read = of_given (build_files job) Is h.given outcome inputs (given_is (Ok inputs) read) h.is

  -- what a build is that is run
  abbrev IsFound : Type 0
  IsFound = (script : Script) × (linked : Linked) × IsBuilt job contents script linked

  found_in : (inputs : InputsTree) → AreAnswered (build_files job) contents (Ok inputs) → IsRun outcome
      → IsOf job inputs outcome → IsFound
  found_in inputs read run (Unlinked why is one) = absurd (not_run why outcome one run)
  found_in inputs read run (Follows p linked is are one) = (
    inputs.script,
    linked,
    record {
      accepted = record { inputs = inputs; read = read; program = p; rules = rules_of_program inputs p is };
      script_is = refl;
      linked_is = are;
    },
  )

  found_by : (given : Result InputsTree InputError) → AreAnswered (build_files job) contents given → IsRun outcome
      → IsGivenOutcome (build_files job) Is given outcome → IsFound
  found_by given read run (Refused error is one) =
      absurd (not_run_of_files job.files error outcome one run)
  found_by given read run (Given inputs is one) =
      found_in inputs (subst (AreAnswered (build_files job) contents) is read) run one

  run_of : (a : IsAccepted job contents) → IsOf job a.inputs outcome → IsRun outcome
  run_of a h = grind (arith, program_of_rules a.inputs a.program a.rules)

  pub links_exactly : LinksExactly job contents outcome
  links_exactly = record {
    runs = (λ run. (found_by h.given h.answer run h.is).2.accepted, λ a. run_of a (of_inputs a.inputs a.read));
    built = λ run. found_by h.given h.answer run h.is;
    files = λ error read. of_refused (build_files job) Is h.given outcome error (given_is (Err error) read) h.is;
    rules = λ inputs why read stopped. of_stopped _ _ outcome why stopped (of_inputs inputs read);
  }

  -- what is linked is reported
  pub reported : (script : Script) (linked : Linked) → IsBuilt job contents script linked
      → IsReport linked job.hex script job.steps outcome
  reported script linked b =
      let a = b.accepted in
      rw b.script_is (of_linked _ _ outcome a.program linked (program_of_rules a.inputs a.program a.rules) b.linked_is
      (of_inputs a.inputs a.read))

  pub prints_record : (script : Script) (linked : Linked) → IsBuilt job contents script linked
      → PrintsRecord job script linked outcome
  unfolding report_of
  prints_record script linked b =
      let r = reported script linked b in
      record {
        chains = r.chains;
        heaviest = r.heaviest;
        text = ap (λ (o : Outcome). o.text) r.is;
        status = ap (λ (o : Outcome). o.status) r.is;
        keeps = ap (λ (o : Outcome). o.keeps) r.is;
      }

-- what comes of a build that gets as far as placing
pub outcome_of_graph : (modules : List ModuleParts) (controls : List (ℕ × Control)) (g : GraphParts) (job : BuildJob)
    (contents : List (List ℕ)) (outcome : Outcome) (r : ReachesPlacing job contents modules controls g)
    → IsBuildOutcome job contents outcome
    → IsProgramOutcome (placed_of modules controls g) (λ linked. IsReport linked job.hex r.inputs.script job.steps)
    outcome
outcome_of_graph modules controls g job contents outcome r h =
    let same : program_in r.inputs ≡ placed_of modules controls g = rw (r.chosen, r.lines, r.graph) in
    subst (λ (program : Result Program Refusal). IsProgramOutcome program
    (λ linked. IsReport linked job.hex r.inputs.script job.steps) outcome) same
    (of_inputs job contents outcome h r.inputs r.read)

-- ---- L12

-- two texts that differ in the first eight bytes
apart : {one two : List ℕ} → one ≡ two → bytes_eq (take 8 one) (take 8 two) ≡ false → ⊥
apart same differs = false≢true (sym differs ∙ (bytes_eq-Decides _ _).1 (ap (take 8) same))

pub line_of_l12 : (why : Refusal) (name : List ℕ) → refusal_text why ≡ refusal_text (L12 name) → why ≡ L12 name
line_of_l12 (L12 other) name h =
    let words = append_cancel_right (codes "LINK L12" ++ after_blank other) (codes "LINK L12" ++ after_blank name)
    (codes "\n") h in
    let names = append_cancel_left (codes "LINK L12") (after_blank other) (after_blank name) words in
    ap L12 (append_cancel_left (codes " ") other name names)
line_of_l12 other name h = absurd (apart h refl)

module _ (name : List ℕ) where
  -- none of the rules on chosen modules
  not_chosen : (modules : List ModuleParts) → first_refusal modules ≡ Some (L12 name) → ⊥
  not_chosen modules h = grind arith

  two_by : (title roots : List ℕ) (b : Bool) → cond b (under_two title roots) None ≡ Some (L12 name) → ⊥
  two_by title roots b h = grind arith

  none_under : (reach : ℕ → ℕ → Bool) (roots : List (ℕ × ℕ)) (own : List (Option ℕ)) (unit : ℕ) (titles : List (List ℕ))
      → first_under_two reach roots own unit titles ≡ Some (L12 name) → ⊥
  none_under reach roots own unit [] h = grind arith
  none_under reach roots own unit (title ∷ more) h =
      grind (arith, two_by title, none_under reach roots own (unit + 1) more)

  drawn_by : (lost : Option (List ℕ)) (line : Option ℕ) (reset : Bool) (cycles : List (List ℕ)) (last : Option Refusal)
      (parts : GraphParts) → (last ≡ Some (L12 name) → ⊥)
      → unless (option_map L6 lost) (unless (option_map L7 line) (unless (cond reset None (Some L8))
      (unless (on_cycles cycles) (unless last (Ok parts))))) ≡ Err (L12 name) → ⊥
  drawn_by lost line reset cycles last parts none h = grind arith

  not_drawn : (modules : List ModuleParts) (controls : List (ℕ × Control)) → graph_of modules controls ≡ Err (L12 name)
      → ⊥
  not_drawn modules controls =
      let titles = unit_titles (segments_of modules) in
      let parts : GraphParts =
      parts_of (segments_of modules) controls (edges_of titles controls (fixup_edges modules)) in
      drawn_by (lost_segment titles (segments_of modules))
      (bad_line titles (segments_of modules) controls (fixup_edges modules))
      (list_any (λ root. nat_eq root.0 0) parts.roots) (cyclic_from (leads parts.edges) 0 titles)
      (first_under_two (leads parts.edges) parts.roots parts.own 0 titles) parts
      (none_under (leads parts.edges) parts.roots parts.own 0 titles)

  -- so modules were chosen, and their graph was drawn
  record IsDrawn (inputs : InputsTree) : Type 0 where
    modules : List ModuleParts
    g : GraphParts
    chosen : resolved_of inputs.modules inputs.libraries ≡ Ok modules
    graph : graph_of modules inputs.controls ≡ Ok g

  not_answered : (chosen : List ModuleParts) (rule : Option Refusal) → first_refusal chosen ≡ rule
      → unless_refused chosen rule ≡ Err (L12 name) → ⊥
  not_answered chosen rule is h = grind (arith, not_chosen)

  -- the first of two steps has the error, or else the second
  either_step : {A B : Type 0} (first : Result A Refusal) (next : A → Result B Refusal)
      → and_then first next ≡ Err (L12 name)
      → (first ≡ Err (L12 name)) ⊎ ((value : A) × (first ≡ Ok value) × (next value ≡ Err (L12 name)))
  either_step first next h = grind arith

  is_drawn : (inputs : InputsTree) → program_in inputs ≡ Err (L12 name) → IsDrawn inputs
  is_drawn inputs h = elim (either_step (resolved_of inputs.modules inputs.libraries) (joined_of inputs.controls) h) [
    | inl e ↦
        let chosen : List ModuleParts = chosen_of inputs.modules (members_of inputs.libraries) in
        absurd (not_answered chosen (first_refusal chosen) refl e)
    | inr c ↦ elim (either_step (graph_of c.0 inputs.controls) (placed_of c.0 inputs.controls) c.2) [
      | inl e ↦ absurd (not_drawn c.0 inputs.controls e)
      | inr g ↦ record { modules = c.0; g = g.0; chosen = c.1; graph = g.1 }
    ]
  ]

module _ (job : BuildJob) (contents : List (List ℕ)) (outcome : Outcome) (name : List ℕ) (bytes : AreOfBytes contents)
    (status : outcome.status ≡ Link)
    (text : outcome.text ≡ refusal_text (L12 name)) where
  of_program : (inputs : InputsTree) → AreAnswered (build_files job) contents (Ok inputs) → IsOf job inputs outcome
      → ComesToPlacing job contents
  of_program inputs read (Unlinked why is one) =
      let why_is : why ≡ L12 name = line_of_l12 why name (sym (ap (λ (o : Outcome). o.text) one) ∙ text) in
      let drawn = is_drawn name inputs (is ∙ ap (λ (r : Refusal). Err r) why_is) in
      record {
        modules = drawn.modules;
        controls = inputs.controls;
        g = drawn.g;
        reaches = record {
          bytes = bytes;
          inputs = inputs;
          read = read;
          lines = refl;
          chosen = drawn.chosen;
          graph = drawn.graph;
        };
      }
  of_program inputs read (Follows p linked is linked_is report) =
      absurd (not_link (report_of linked.layout linked.image inputs.script job.steps).event
      (sym (ap (λ (o : Outcome). o.status) report.is) ∙ status))

  of_files : (given : Result InputsTree InputError) → AreAnswered (build_files job) contents given
      → IsGivenOutcome (build_files job) (IsInputsOutcome (λ script linked. IsReport linked job.hex script job.steps))
      given outcome → ComesToPlacing job contents
  of_files given answer (Refused error is one) = absurd (not_link_of_files job.files error outcome one status)
  of_files given answer (Given inputs is comes) =
      of_program inputs (rw is at answer) comes

pub l12_only_at_placing : L12OnlyAtPlacing
l12_only_at_placing job contents outcome name bytes h status text =
    of_files job contents outcome name bytes status text h.given h.answer h.is

-- ---- what outcomes keep

-- what an outcome keeps fits its status
abbrev pub Keeps : Outcome → Type 0
Keeps o = MayKeep o.status o.keeps

pub event_keeps : (event : Option Event) (keeps : Option (List ℕ)) → MayKeep (status_by event) keeps
event_keeps event keeps = grind arith

pub party_keeps : (event : Bool) (keeps : Option (List ℕ)) → MayKeep (status_if event) keeps
party_keeps event keeps = grind arith

pub link_keeps : (why : Refusal) → Keeps (link_outcome why)
link_keeps why = grind arith

pub script_keeps : (error : ScriptError) → Keeps (script_outcome error)
script_keeps error = grind arith

pub input_keeps : (files : List (List ℕ)) (error : InputError) → Keeps (input_outcome files error)
input_keeps files error = grind arith

pub text_keeps : (text : Result (List ℕ) Quantity) → Keeps (text_outcome text)
text_keeps text = grind arith

pub bound_keeps : (l : LayoutParts) (bound : Result StackBound StackError) → Keeps (bound_outcome l bound)
bound_keeps l bound = grind arith

-- a refusal keeps nothing
abbrev Refuses : {A : Type 0} → Result A Outcome → Type 0
Refuses (Ok value) = Unit {0}
Refuses (Err refusal) = Keeps refusal

objects_refuse : (op : Operation) (names files : List (List ℕ)) → Refuses (object_edits op names files)
objects_refuse op (name ∷ names) (file ∷ files) = grind (arith, objects_refuse op names files)
objects_refuse op names files = tt

edits_refuse : (op : Operation) (files : List (List ℕ)) → Refuses (edits_of op files)
unfolding edits_of
edits_refuse op files = grind (arith, objects_refuse)

edited_keeps : (op : Operation) (files : List (List ℕ)) (modules : List ModuleParts)
    → Keeps (either (edited_library op files modules))
edited_keeps op files modules = grind (arith, edits_refuse op files)

operated_keeps : (op : Operation) (files : List (List ℕ)) (modules : List ModuleParts)
    → Keeps (either (operated op files modules))
unfolding operated
operated_keeps op files modules = grind (arith, edited_keeps)

with_keeps : (name : List ℕ) (op : Operation) (files : List (List ℕ)) → Keeps (either (with_library name op files))
with_keeps name op files = grind (arith, operated_keeps)

pub library_keeps : (job : LibraryJob) (files : List (List ℕ)) → Keeps (library_outcome_of job files)
unfolding library_work
library_keeps job files = grind (arith, edited_keeps, with_keeps)
