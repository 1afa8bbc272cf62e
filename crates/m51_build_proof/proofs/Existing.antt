-- Each job has an outcome, and a build only one; arguments and files of bytes have one answer, which the top call
-- completes.
use Rattle.m51_build_proof.proofs
use proofs.Common.{leads, InputError, InputsTree, one_text, Linked, Refusal, LayoutParts, vectors, segments_of}
use proofs.Common.{BuildJob, build_files, link_outcome, same_Ok, ModuleParts, Script, range_with_len, one_for_files}
use proofs.Common.{Program, AreRoots, IsLinked, byte_among, AreAnswered, Given, IsGivenOutcome, ProgramFiles, Refused}
use proofs.Common.{control_content, script_content, word_contents, IsFilesOutcome, IsReport, program_report, AreOfBytes}
use proofs.Common.{is_some, slice_index_or, count_by, cases_eq, AreRootBits, bits_tell, AreRuns, runs_more, same_runs}
use proofs.Common.{Run, IsSound, weights_agree, one_outcome, on_value, BoardState, IsOutcome, Memory, memory_from}
use proofs.Common.{FlatJob, Job, is_source, SourceFile, ScriptError, content_if, script_outcome, leb_tells, job_of}
use proofs.Common.{HoldBytes, MOST_FILES, file_count, name_kept, names_read, Files}
use proofs.Known.{graph_kept, IsStartable, sole_startable, files_startable, inputs_known, modules_known, startable}
use proofs.Weights.{has_weight}
use proofs.Verdicts.{rules_of_program, Keeps, bound_keeps, event_keeps, input_keeps, library_keeps, link_keeps}
use proofs.Verdicts.{party_keeps, script_keeps, text_keeps}
use proofs.StartedBoards.{read_at, started_board}
use proofs.BoundFound.{has_bound}
use proofs.PieceBytes.{HasBytes}
use proofs.Promised.{are_read}
use Rattle.m51_chain.specs.Outcome.{Outcome, Answer, long_answer, many_answer, named_answer, unread_answer}
use Rattle.m51_chain.specs.Outcome.{usage_answer}
use Rattle.std.proofs.Common.{◌≡◌, inl, inr, ℕ, zero, suc, ◌+◌, ◌<◌, Bool, true, false, List, [], ◌∷◌, ◌++◌, length}
use Rattle.std.proofs.Common.{map, Option, None, Result, Ok, Err, refl, sym, ap, subst, ◌∙◌, arith, ◌≤◌, Some}
use Rattle.m51_linker.specs.Image.{IsImage, byte_at, content_of, IsFilled}
use Rattle.m51_chain.specs.Linking.{Follows, IsInputsOutcome, Unlinked, program_in, sole_program, IsLinkedOutcome}
use Rattle.m51_chain.specs.Linking.{IsProgramOutcome}
use Rattle.std.proofs.lemmas.List.FromFn.{length-map-range_with_len}
use Rattle.m51_graph.specs.Relating.{root_byte}
use Rattle.m51_linker.specs.Growing.{AddsIf, longer, run_at}
use Rattle.m51_linker.specs.Growing.AddsByte.{Joined, Apart, First}
use Rattle.m51_linker.specs.Memory.{IsHeldBelow}
use Rattle.m51_module.specs.declared.image.TheConstants.{IMAGE_LEN}
use Rattle.m51_module.specs.Chains.{AreHeaviest}
use Rattle.m51_build_proof.specs.Headline.{EachHasOneOutcome, IsOnly}
use Rattle.m51_chain.proofs.Joined.{all_fresh}
use Rattle.m51_chain.specs.Parties.{AreBoardsOf, IsBoardOf, IsPartyWork, party_outcome, programs_of, party_files}
use Rattle.m51_party.proofs.One.{only_family}
use Rattle.m51_party.specs.Rounds.{family_of}
use Rattle.m51_asm.specs.Answer.{AnswerTree}
use Rattle.m51_chain.specs.Analyses.{link_files, IsBounded, IsDisassembled, bound_outcome}
use Rattle.m51_chain.specs.Assembles.{IsOneOutcome, assembled_outcome}
use Rattle.m51_chain.specs.Generates.{IsCounted, IsGenOutcome, IsGenerated, summary_outcome}
use Rattle.m51_disasm.specs.Answer.{disassembled}
use Rattle.m51_generator.specs.Lines.{generated}
use Rattle.m51_hex.specs.declared.error.HexError.{HexError}
use Rattle.m51_inputs.proofs.FileLists.{count-files_that}
use Rattle.m51_jobs.specs.declared.job.GenJob.{GenJob}
use Rattle.m51_jobs.specs.declared.job.LinkJob.{LinkJob}
use Rattle.m51_jobs.specs.declared.job.PartyJob.{PartyJob}
use Rattle.m51_text.specs.Answer.{text_of}
use Rattle.m51_chain.specs.FlatRuns.{IsFlatOutcome, IsFlatWork, IsScripted, flat_report, script_in}
use Rattle.m51_chain.specs.Refusals.{hex_outcome}
use Rattle.m51_cells.proofs.Members.{Every}
use Rattle.m51_build_proof.specs.Answers.{EachJobHasOne, IsReady, ChainIsComplete, EachHasOneAnswer}
use Rattle.m51_hex.proofs.LowRecords.{image_length, image_of, image_read}
use Rattle.m51_jobs.specs.declared.job.AsmJob.{AsmJob}
use Rattle.m51_chain.proofs.Completed.{completed, one_answer}
use Rattle.m51_chain.proofs.FitJobs.{asked_fit}
use Rattle.m51_chain.specs.Expected.{Faulty, HasOutcome, IsAnswer, LongFile, Many, NoFile, Worked}
use Rattle.m51_chain.specs.Reading.{Absent, Reading, TooLong, Whole, read_of}
use Rattle.m51_asm.specs.Answer as answers
use Rattle.m51_jobs.specs.declared.job.Job.TheVariants as jobs
use Rattle.m51_chain.specs.FlatRuns as flats
use Rattle.m51_chain.specs.Parties as parties

-- there is an outcome of this kind, and what it keeps fits its status
abbrev pub Found : (Outcome → Type 0) → Type 0
Found Is = (outcome : Outcome) × Is outcome × Keeps outcome

-- ---- a program can be linked

last_of : (run : Run) (more : List Run) → (front : List Run) × (last : Run) × (run ∷ more ≡ front ++ last ∷ [])
last_of run [] = ([], run, refl)
last_of run (next ∷ more) =
    let l = last_of next more in (run ∷ l.0, l.1, ap (λ (rs : List Run). run ∷ rs) l.2)

next : (held : Bool) (address : ℕ) (old : List Run) → (new : List Run) × AddsIf held address old new
next false address old = (old, refl)
next true address [] = (run_at address ∷ [], First refl refl)
next true address (run ∷ more) =
    let l = last_of run more in
    elim (cases_eq (l.1.first + l.1.len) address) [
      | inl ends ↦ (l.0 ++ longer l.1 ∷ [], Joined l.0 l.1 l.2 ends refl)
      | inr other ↦ ((run ∷ more) ++ run_at address ∷ [], Apart l.0 l.1 l.2 other refl)
    ]

-- the runs of a memory
runs_to : (content : List (Option ℕ)) (n : ℕ) → (runs : List Run) × AreRuns (IsHeldBelow content n) runs
runs_to content zero = (
  [],
  record {
    whole = λ k d below. absurd (omega (arith, below));
    all = λ address held. absurd (omega (arith, held.below));
    ascending = λ i j d less below. absurd (omega (arith, below));
  },
)
runs_to content (suc n) =
    let before = runs_to content n in
    let held : Bool = is_some (slice_index_or content n None) in
    let after = next held n before.0 in
    let one_more : n + 1 ≡ suc n = omega arith in (
      after.0,
      subst (λ k. AreRuns (IsHeldBelow content k) after.0) one_more
          (runs_more content n held before.0 after.0 before.1 refl after.1),
    )

module _ (p : Program) (size : ℕ) (whole : size ≡ IMAGE_LEN) where
  bytes : List ℕ
  bytes = map (byte_at p.modules p.placing) (range_with_len 0 size)

  image_is : IsImage p.modules p.placing bytes
  unfolding bytes
  image_is = record {
    len = length-map-range_with_len (byte_at p.modules p.placing) 0 size ∙ whole;
    each = λ address below. read_at (byte_at p.modules p.placing) size address 0 (omega (arith, below));
  }

  content : List (Option ℕ)
  content = map (byte_among (content_of p.modules p.placing)) (range_with_len 0 size)

  content_at : (address : ℕ) → address < size
      → slice_index_or content address None ≡ byte_among (content_of p.modules p.placing) address
  unfolding content
  content_at address below = read_at (byte_among (content_of p.modules p.placing)) size address None below

  runs_are : AreRuns (IsFilled p.modules p.placing) (runs_to content size).0
  runs_are =
      same_runs (IsHeldBelow content size) (IsFilled p.modules p.placing) (runs_to content size).0
      (λ address h. record {
        inside = omega (arith, h.below);
        filled = ap is_some (sym (content_at address h.below)) ∙ h.held;
      })
      (λ address h. let below : address < size = omega (arith, h.inside) in
      record { below = below; held = ap is_some (content_at address below) ∙ h.filled })
      (runs_to content size).1

  roots : List ℕ
  roots = map (root_byte (leads p.graph.edges) p.graph.roots) (range_with_len 0 (length p.graph.units))

  roots_are : AreRoots p.graph roots
  unfolding roots
  roots_are = record {
    len = length-map-range_with_len (root_byte (leads p.graph.edges) p.graph.roots) 0 (length p.graph.units);
    each = λ unit below. subst (AreRootBits p.graph unit)
        (sym (read_at (root_byte (leads p.graph.edges) p.graph.roots) (length p.graph.units) unit 0 below))
        (bits_tell p.graph unit vectors);
  }

  has_linked : (linked : Linked) × IsLinked p linked
  has_linked = (
    record { layout = p.placing.layout; image = bytes; written = (runs_to content size).0; roots = roots },
    record { layout = refl; image = image_is; written = runs_are; roots = roots_are },
  )

-- ---- what is linked

module _ (program : Result Program Refusal) (Is : Linked → Outcome → Type 0)
    (each : (p : Program) → program ≡ Ok p → (linked : Linked) → IsLinked p linked → Found (Is linked)) where
  found_by : (r : Result Program Refusal) → program ≡ r → Found (IsProgramOutcome program Is)
  found_by (Err why) is = (link_outcome why, Unlinked why is refl, link_keeps why)
  found_by (Ok p) is =
      let l = has_linked p IMAGE_LEN refl in
      let o = each p is l.0 l.1 in (o.0, Follows p l.0 is l.1 o.1, o.2)

  program_found : Found (IsProgramOutcome program Is)
  program_found = found_by program refl

module _ (files : ProgramFiles) (contents : List (List ℕ)) (Is : InputsTree → Outcome → Type 0)
    (each : (inputs : InputsTree) → AreAnswered files contents (Ok inputs) → Found (Is inputs)) where
  given_found : (given : Result InputsTree InputError) → AreAnswered files contents given
      → Found (IsGivenOutcome files Is given)
  given_found (Err error) read = (_, Refused error refl refl, input_keeps files.words error)
  given_found (Ok inputs) read = let o = each inputs read in (o.0, Given inputs refl o.1, o.2)

  files_found : Found (IsFilesOutcome files contents Is)
  files_found =
      let one = one_for_files one_text files.words (word_contents files contents) (control_content files contents)
      (script_content files contents) in
      let o = given_found one.answer one.is in (o.0, record { given = one.answer; answer = one.is; is = o.1 }, o.2)

build_found : (job : BuildJob) (contents : List (List ℕ)) → AreOfBytes contents
    → Found (IsOutcome (jobs.Build job) contents)
build_found job contents bytes =
    files_found (build_files job) contents
    (IsInputsOutcome (λ script linked. IsReport linked job.hex script job.steps)) (λ inputs read.
    program_found (program_in inputs) (λ linked. IsReport linked job.hex inputs.script job.steps)
    (λ p is linked l.
    let rules = rules_of_program inputs p is in
    let k = modules_known (build_files job) contents inputs p.modules bytes read rules.chosen in
    let start = startable inputs p rules k in
    let kept = graph_kept p.modules inputs.controls p.graph k.resolved rules.drawn in
    let weight = has_weight (segments_of p.modules) p.graph kept in
    let w = weights_agree p.modules inputs.controls p.graph p.placing weight.weight k.valid k.resolved k.kept kept
    rules.drawn rules.placed weight.is in (
      program_report linked w.chains job.hex inputs.script job.steps,
      record {
        sound = subst IsSound (sym l.layout) start.sound;
        chains = w.chains;
        heaviest = subst (λ (x : LayoutParts). AreHeaviest x w.chains) (sym l.layout) w.heaviest;
        is = refl;
      },
      event_keeps _ _,
    )))

-- what becomes of a layout and an image, where the layout is sound and has a root at 0000H
module _ (job : LinkJob) (contents : List (List ℕ)) (Is : LayoutParts → List ℕ → Outcome → Type 0)
    (each : (layout : LayoutParts) (image : List ℕ) → IsStartable layout → Found (Is layout image)) where
  looked_at : AreOfBytes contents
      → Found (IsLinkedOutcome (link_files job) contents (λ script linked. Is linked.layout linked.image))
  looked_at bytes =
      files_found (link_files job) contents (IsInputsOutcome (λ script linked. Is linked.layout linked.image))
      (λ inputs read. program_found (program_in inputs) (λ linked. Is linked.layout linked.image)
      (λ p is linked l. each linked.layout linked.image
      (subst IsStartable (sym l.layout) (files_startable (link_files job) contents inputs p bytes read
      (rules_of_program inputs p is)))))

dis_found : (job : LinkJob) (contents : List (List ℕ)) → AreOfBytes contents
    → Found (IsOutcome (jobs.Dis job) contents)
dis_found job contents =
    looked_at job contents IsDisassembled (λ layout image ok. (_, refl, text_keeps (disassembled layout image)))

stack_found : (job : LinkJob) (contents : List (List ℕ)) → AreOfBytes contents
    → Found (IsOutcome (jobs.Stack job) contents)
stack_found job contents =
    looked_at job contents IsBounded (λ layout image ok.
    let b = has_bound layout image ok.sound ok.root in (
      bound_outcome layout b.answer,
      record { sound = ok.sound; answer = b.answer; tied = b.tied; answers = b.answers; is = refl },
      bound_keeps layout b.answer,
    ))

-- ---- the boards of a party

-- a program that is linked is started
one_board : (script : Script) (m : ModuleParts) (p : Program) → HasBytes m → sole_program m ≡ Ok p
    → (board : BoardState) × IsBoardOf script p board
one_board script m p valid is =
    let l = has_linked p IMAGE_LEN refl in
    let ok = subst IsStartable (sym l.1.layout) (sole_startable m p valid is) in
    let b = started_board l.0.layout ok l.0.image script in
    (b.0, record { linked = l.0; is = l.1; started = b.1 })

all_boards : (script : Script) (modules : List ModuleParts) (programs : List Program) → Every HasBytes modules
    → programs_of modules ≡ Ok programs → (boards : List BoardState) × AreBoardsOf script programs boards
all_boards script [] programs valid h = rw (← same_Ok {A = List Program} {E = Refusal} [] programs h) ([], tt)
all_boards script (m ∷ modules) programs valid h =
    on_value (sole_program m) _ programs ((boards : List BoardState) × AreBoardsOf script programs boards)
    (λ p is later.
    on_value (programs_of modules) _ programs ((boards : List BoardState) × AreBoardsOf script programs boards)
    (λ more are done.
    let first = one_board script m p valid.0 is in
    let rest = all_boards script modules more valid.1 are in
    rw (← same_Ok {A = List Program} {E = Refusal} (p ∷ more) programs done)
    (first.0 ∷ rest.0, (first.1, rest.1))) later) h

party_work : (steps : ℕ) (inputs : InputsTree) → Every HasBytes inputs.modules → Found (IsPartyWork steps inputs)
party_work steps inputs valid = by (programs_of inputs.modules) refl
  where
    by : (r : Result (List Program) Refusal) → programs_of inputs.modules ≡ r → Found (IsPartyWork steps inputs)
    by (Err why) is = (link_outcome why, parties.Unlinked why is refl, link_keeps why)
    by (Ok programs) is =
        let b = all_boards inputs.script inputs.modules programs valid is in
        let one = only_family b.0 steps (all_fresh inputs.script programs b.0 b.1) in (
          party_outcome b.0 steps,
          parties.Ran programs b.0 is b.1 (record { family = family_of b.0 steps; belongs = one.is; is = refl }),
          party_keeps _ None,
        )

party_found : (job : PartyJob) (contents : List (List ℕ)) → AreOfBytes contents
    → Found (IsOutcome (jobs.Party job) contents)
party_found job contents bytes =
    files_found (party_files job) contents (IsPartyWork job.steps)
    (λ inputs read. party_work job.steps inputs (inputs_known (party_files job) contents inputs bytes read).modules)

-- ---- what is generated

generated_found : (source : SourceFile) (steps : ℕ) (a : AnswerTree) → Found (IsGenerated source steps a)
generated_found source steps (answers.Faults faults) = (_, refl, refl)
generated_found source steps (answers.Gives parts rows) =
    program_found (sole_program parts) (IsCounted steps)
    (λ p is linked l. (summary_outcome linked.layout linked.image steps, refl, event_keeps _ None))

gen_found : (job : GenJob) → Found (IsGenOutcome job)
gen_found job =
    let source : SourceFile = generated job.units job.start in
    let one = one_text source.name (text_of source []) in
    let o = generated_found source job.steps one.answer in
    (o.0, record { answer = one.answer; answered = one.is; is = o.1 }, o.2)

-- ---- what is assembled

assembled_found : (files : List (List ℕ)) (sources includes : List SourceFile) → length sources ≡ 1
    → Found (IsOneOutcome files sources includes)
assembled_found files [] includes one = absurd (omega (arith, one))
assembled_found files (source ∷ other ∷ more) includes one = absurd (omega (arith, one))
assembled_found files (source ∷ []) includes count =
    let one = one_text source.name (text_of source includes) in (
      assembled_outcome files source includes one.answer,
      record { answer = one.answer; answered = one.is; is = refl },
      assembled_keeps one.answer,
    )
  where
    assembled_keeps : (a : AnswerTree) → Keeps (assembled_outcome files source includes a)
    assembled_keeps a = grind arith

asm_found : (job : AsmJob) (contents : List (List ℕ)) → count_by is_source job.files ≡ 1
    → length contents ≡ length job.files → Found (IsOutcome (jobs.Asm job) contents)
asm_found job contents fit count =
    assembled_found job.files _ _ (count-files_that is_source job.files contents count ∙ fit)

-- ---- what is run on one memory

scripted_found : (job : FlatJob) (image : List ℕ) (file : Option (List ℕ)) → Found (IsScripted job image file)
scripted_found job image file = by (script_in file) refl
  where
    by : (r : Result Script ScriptError) → script_in file ≡ r → Found (IsScripted job image file)
    by (Err error) is = (script_outcome error, flats.ScriptRefused error is refl, script_keeps error)
    by (Ok with) is = (flat_report image with job.steps, flats.Ran with is refl, event_keeps _ None)

flat_by : (job : FlatJob) (file : List ℕ) (script : Option (List ℕ)) (size : ℕ) → size ≡ IMAGE_LEN
    → (r : Result Memory HexError) → memory_from file ≡ r → Found (IsFlatWork job file script)
flat_by job file script size whole (Err error) is = (hex_outcome job.file error, flats.HexRefused error is refl, refl)
flat_by job file script size whole (Ok m) is =
    let o = scripted_found job (image_of m size) script in
    (o.0, flats.HexRead (image_of m size) (image_length m size ∙ whole) (image_read file m size whole is) o.1, o.2)

flat_found : (job : FlatJob) (contents : List (List ℕ)) (count : ℕ) → length contents ≡ suc count
    → Found (IsFlatOutcome job contents)
flat_found job [] count some = absurd (omega (arith, some))
flat_found job (file ∷ others) count some =
    flat_by job file (content_if job.script others) IMAGE_LEN refl (memory_from file) refl

-- ---- each of them

only_one : (job : Job) (contents : List (List ℕ)) → Found (IsOutcome job contents)
    → (outcome : Outcome) × IsOnly job contents outcome
only_one job contents found =
    (found.0, record { is = found.1; only = λ other h. one_outcome job contents other found.0 h found.1 })

pub one_of_each : EachHasOneOutcome
one_of_each job contents bytes = only_one (jobs.Build job) contents (build_found job contents bytes)

pub job_found : (job : Job) (contents : List (List ℕ)) → IsReady job contents → Found (IsOutcome job contents)
job_found (jobs.Build job) contents ready = build_found job contents ready.bytes
job_found (jobs.Asm job) contents ready = asm_found job contents ready.fit ready.count
job_found (jobs.Library job) contents ready = (_, refl, library_keeps job contents)
job_found (jobs.Flat job) contents ready = flat_found job contents _ ready.count
job_found (jobs.Gen job) contents ready = gen_found job
job_found (jobs.Dis job) contents ready = dis_found job contents ready.bytes
job_found (jobs.Stack job) contents ready = stack_found job contents ready.bytes
job_found (jobs.Party job) contents ready = party_found job contents ready.bytes

pub one_of_job : EachJobHasOne
one_of_job job contents ready = only_one job contents (job_found job contents ready)

-- ---- the answer

abbrev Answered : List (List ℕ) → Files → Type 0
Answered words files = (answer : Answer) × IsAnswer words files answer

module _ (words : List (List ℕ)) (files : Files) (bytes : HoldBytes files) where
  worked : (job : Job) (contents : List (List ℕ)) → job_of words ≡ Some job → file_count job ≤ MOST_FILES
      → read_of files (names_read job) ≡ Whole contents → Answered words files
  worked job contents asked few read =
      let given = are_read files bytes (names_read job) contents read in
      let o = job_found job contents (record {
        fit = asked_fit words job asked;
        count = given.0;
        bytes = given.1;
      }) in
      let has : HasOutcome job contents (named_answer (name_kept job) o.0) =
      record { outcome = o.0; work = o.1; keeps = o.2; is = refl } in
      (named_answer (name_kept job) o.0, Worked job contents asked few read has)

  by_reading : (job : Job) (r : Reading) → job_of words ≡ Some job → file_count job ≤ MOST_FILES
      → read_of files (names_read job) ≡ r → Answered words files
  by_reading job (Whole contents) asked few read = worked job contents asked few read
  by_reading job TooLong asked few read = (long_answer, LongFile job asked few read refl)
  by_reading job (Absent name) asked few read =
      (unread_answer name, NoFile job name asked few read refl)

  by_job : (asked : Option Job) → job_of words ≡ asked → Answered words files
  by_job None asked = (usage_answer, Faulty asked refl)
  by_job (Some job) asked = elim (leb_tells (file_count job) MOST_FILES) [
    | inl few ↦ by_reading job (read_of files (names_read job)) asked few.1 refl
    | inr many ↦ (many_answer, Many job asked (omega (arith, many.1)) refl)
  ]

  answered : Answered words files
  answered = by_job (job_of words) refl

pub one_of_words : EachHasOneAnswer
one_of_words words files bytes =
    let a = answered words files bytes in
    (a.0, record { is = a.1; only = λ other h. one_answer words files other a.0 h a.1 })

pub chain_complete : ChainIsComplete
chain_complete words files c told bytes it =
    let one = one_of_words words files bytes in
    (one.0, one.1, completed words files c one.0 told it one.1.is)
