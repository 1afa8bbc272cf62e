-- The headline, and that the top call keeps it: the kept file runs alike, and flat repeats the run.
use Rattle.m51_build_proof.proofs
use proofs.Common.{same_Some, Linked, Script, BuildJob, build_files, AreOfBytes, IsBuilt, separate_run, flat_run}
use proofs.Common.{IsByteList, script_content, All-cons, All-nil, memory_in, memory_from, inputs_of, flat_runs_agree}
use proofs.Common.{hex_kept, IsOutcome, Event, script_in, FlatJob, content_if, one_outcome, Job, names_read, job_of}
use proofs.Common.{Status, Files, ChainKeepsPromise, HoldBytes, KeepsPromise}
use proofs.Erased.{erased_outside}
use proofs.PieceBytes.{image_bytes}
use proofs.Known.{inputs_known, known}
use proofs.Verdicts.{is_run, prints_record, reported as build_reported, links_exactly}
use proofs.StartedBoards.{one_live_segment}
use Rattle.m51_chain.specs.Outcome.{Outcome, status_by, Answer, long_answer, many_answer, unread_answer}
use Rattle.std.proofs.Common.{◌≡◌, ℕ, List, Option, Some, None, Ok, sym, subst, ◌∙◌, zero, suc, ◌+◌, ◌-◌, ◌<◌, [], ◌∷◌}
use Rattle.std.proofs.Common.{◌++◌, codes, Result, refl, ap, arith, ◌⊎◌, inl, inr, Bool, true, false, cond, length}
use Rattle.std.proofs.Common.{append-nil}
use Rattle.m51_jobs.specs.declared.job.Job.TheVariants.{Build, Flat}
use Rattle.m51_hex.specs.Writing.{hex_of}
use Rattle.m51_hex.proofs.RoundTrip.{written_is_read}
use Rattle.m51_build_proof.specs.Headline.{RunsAlike, FlatGives, FlatRepeats, IfShared, Headline}
use Rattle.std.specs.Prelude.{flat_map}
use Rattle.m51_cells.specs.declared.event.Entry.{Entry}
use Rattle.m51_flat.specs.Reads.{CellMap}
use Rattle.m51_print.specs.Lines.{entry_line, last_line, titles_of}
use Rattle.m51_sim.specs.FlatMachine.{filled_map, flat_machine, reset_with}
use Rattle.m51_sim.specs.Laws.{IsSameRun, IsSharedEvent}
use Rattle.m51_sim.specs.Report.{Report, flat_report_of, reported}
use Rattle.m51_sim.specs.Run.{entry_lines, record_text}
use Rattle.m51_sim.specs.Runs.{Machine, Performed, Record, State, no_step, record_from, record_of}
use Rattle.m51_sim.specs.SeparateMachine.{Separate}
use Rattle.m51_sim.proofs.Agreeing.{filled_has}
use Rattle.m51_sim.proofs.Sums.{appended, record_sum}
use Rattle.m51_chain.specs.FlatRuns.{HexRead, Ran}
use Rattle.m51_chain.specs.Expected.{Faulty, HasOutcome, IsAnswer, LongFile, Many, NoFile, Worked}
use Rattle.m51_chain.specs.Outside.{Change}
use Rattle.m51_chain.specs.Reading.{Reading, TooLong, Whole, read_of, read_one, with_file}
use Rattle.m51_chain.specs.Told.{Ended, IsTold, IsUnread, Written}
use Rattle.m51_chain.specs.FlatRuns as flats
use Rattle.m51_chain.specs.declared.status.Status.TheVariants as status

kept_is : (name : Option (List ℕ)) (linked : Linked) (kept : List ℕ) → hex_kept name linked ≡ Some kept
    → hex_of linked.image linked.written ≡ kept
kept_is name linked kept h = grind arith

-- the script of the files of a program is that of the verb flat
script_is : (file : Option (List ℕ)) (s : Script) → script_in file ≡ Ok s → flats.script_in file ≡ Ok s
script_is file s h = grind arith

-- all steps that are asked for are performed, or an event comes before the last of them
abbrev AreCounted : ℕ → Option Event → ℕ → Type 0
AreCounted n None steps = steps ≡ n
AreCounted n (Some event) steps = steps < n

one_more : (n steps : ℕ) (o : Option Event) → AreCounted n o steps → AreCounted (suc n) o (suc steps)
one_more n steps o h = grind arith

-- a record of steps
module _ {M : Type 0} (machine : Machine M) where
  counted_by : (n : ℕ) (s : State M) (r : Result (Performed M) Event)
      → ((t : State M) → AreCounted n (record_of machine n t).event (record_of machine n t).steps)
      → AreCounted (suc n) (record_from s (record_of machine n) r).event (record_from s (record_of machine n) r).steps
  counted_by n s r rest = grind (arith, one_more)

  counted : (n : ℕ) (s : State M) → AreCounted n (record_of machine n s).event (record_of machine n s).steps
  unfolding record_of
  counted zero s = refl
  counted (suc n) s = counted_by n s (machine s) (counted n)

  -- a step that is stopped is the last of each longer record
  stopped_by : (j : ℕ) (s : State M) (event : Event) (r : Result (Performed M) Event)
      → (record_from s (record_of machine 0) r).event ≡ Some event
      → record_from s (record_of machine j) r ≡ no_step (Some event) s
  unfolding record_of
  stopped_by j s event r h = grind arith

  stopped_at : (j : ℕ) (s : State M) (event : Event) → (record_of machine 1 s).event ≡ Some event
      → record_of machine (suc j) s ≡ no_step (Some event) s
  unfolding record_of
  stopped_at j s event h = stopped_by j s event (machine s) h

  -- a record whose next step is stopped, and each longer one
  longer : (k j n : ℕ) (s : State M) (event : Event) → (record_of machine k s).event ≡ None
      → (record_of machine (suc k) s).event ≡ Some event → n ≡ k + suc j
      → record_of machine n s ≡ appended (record_of machine k s) (no_step (Some event) (record_of machine k s).last)
  longer k j n s event on stops is =
      let t = (record_of machine k s).last in
      let next : suc k ≡ k + 1 = omega arith in
      let here : (record_of machine 1 t).event ≡ Some event = rw (next, record_sum machine k 1 s on) at stops in
      rw (is, record_sum machine k (suc j) s on, stopped_at j t event here)

-- the report of a record with these entries, event, steps and cycle
abbrev report_with : List Entry → Option Event → ℕ → ℕ → Report
report_with entries event steps cycle =
    record { event = event; text = flat_map entry_line entries ++ last_line [] event steps cycle }

report_is : {M : Type 0} (r : Record M) (entries : List Entry) (event : Option Event) (steps cycle : ℕ)
    → r.entries ≡ entries → r.event ≡ event → r.steps ≡ steps → r.last.cycle ≡ cycle
    → reported [] r ≡ report_with entries event steps cycle
report_is r entries event steps cycle e v s c = rw (← e, ← v, ← s, ← c)

-- the lines of events at which the flat machine stops name no segment
same_last : (titles : List (List ℕ)) (event : Event) (steps cycle : ℕ) → IsSharedEvent event
    → last_line [] (Some event) steps cycle ≡ last_line titles (Some event) steps cycle
same_last titles event steps cycle h = grind arith

module _ (job : BuildJob) (contents : List (List ℕ)) (outcome : Outcome) (script : Script) (linked : Linked)
    (kept : List ℕ) (bytes : AreOfBytes contents) (h : IsOutcome (Build job) contents outcome)
    (b : IsBuilt job contents script linked) (keeps : outcome.keeps ≡ Some kept) where
  reads_back : memory_from kept ≡ Ok (memory_in linked.image)
  reads_back =
      let a = b.accepted in
      let k = known job contents a bytes in
      let erased = erased_outside a.program.modules a.program.placing linked.image linked.written k.valid
      b.linked_is.image b.linked_is.written
      (image_bytes a.program.modules a.program.placing k.bytes linked.image b.linked_is.image) in
      let prints = prints_record job contents outcome h script linked b in
      rw (← kept_is job.hex linked kept (sym prints.keeps ∙ keeps))
      (written_is_read linked.image linked.written erased)

  alike : RunsAlike linked script (separate_run linked script job.steps) kept
  alike =
      let sound = (build_reported job contents outcome h script linked b).sound in
      record {
        read = reads_back;
        steps = λ cells has. flat_runs_agree.steps linked.layout linked.image (inputs_of script) script.fill cells
            job.steps sound has;
        stops = λ cells event has at shared. flat_runs_agree.stops linked.layout linked.image (inputs_of script)
            script.fill cells job.steps event sound has at shared;
      }

  module _ (flat : FlatJob) (others : List (List ℕ))
      (same_script : content_if flat.script others ≡ script_content (build_files job) contents) where
    abbrev run : Record Separate
    run = separate_run linked script job.steps

    abbrev cells : CellMap
    cells = filled_map script.fill

    read_script : flats.script_in (content_if flat.script others) ≡ Ok script
    read_script =
        let a = b.accepted in
        rw (same_script, b.script_is)
        (script_is (script_content (build_files job) contents) a.inputs.script
        (inputs_known (build_files job) contents a.inputs bytes a.read).script_is)

    -- flat has one outcome, which is this
    one_outcome_is : (r : Report) → reported [] (flat_run linked.image script cells flat.steps) ≡ r
        → FlatGives flat (kept ∷ others) r.event r.text
    unfolding flat_report_of
    one_outcome_is r same =
        let here = subst (λ (x : Report). IsOutcome (Flat flat) (kept ∷ others)
        (record { status = status_by x.event; text = codes "RUN\n" ++ x.text; keeps = None })) same
        (HexRead linked.image b.linked_is.image.len alike.read (Ran script read_script refl)) in
        record { is = here; only = λ other h. one_outcome (Flat flat) (kept ∷ others) other _ h here }

    same : IsSameRun run (flat_run linked.image script cells run.steps)
    same = alike.steps cells (filled_has linked.layout script.fill)

    performed : flat.steps ≡ run.steps
        → FlatGives flat (kept ∷ others) None (entry_lines run ++ last_line [] None run.steps run.last.cycle)
    performed steps = one_outcome_is (report_with run.entries None run.steps run.last.cycle) (rw steps
        (report_is (flat_run linked.image script cells run.steps) run.entries None run.steps run.last.cycle same.entries
        same.event same.steps same.cycle))

    abbrev titles : List (List ℕ)
    titles = titles_of linked.layout.placed

    -- by the event of the run
    whole_by : (o : Option Event) → run.event ≡ o → AreCounted job.steps o run.steps → flat.steps ≡ job.steps
        → IfShared o
        → FlatGives flat (kept ∷ others) o (entry_lines run ++ last_line titles o run.steps run.last.cycle)
    whole_by None is all steps shared = performed (steps ∙ sym all)
    whole_by (Some event) is less steps shared =
        let k = run.steps in
        let count : job.steps ≡ k + suc (job.steps - suc k) = omega (arith, less) in
        let stops = alike.stops cells event (filled_has linked.layout script.fill) is shared in
        let flat_k = flat_run linked.image script cells k in
        let all = longer (flat_machine linked.image (inputs_of script)) k (job.steps - suc k) job.steps
        (reset_with (inputs_of script) cells) event same.event stops count in
        let none_more : flat_k.steps + 0 ≡ run.steps = omega (arith, same.steps) in
        subst (λ line. FlatGives flat (kept ∷ others) (Some event) (entry_lines run ++ line))
        (same_last titles event run.steps run.last.cycle shared)
        (one_outcome_is (report_with run.entries (Some event) run.steps run.last.cycle) (rw (steps, all)
        (report_is (appended flat_k (no_step (Some event) flat_k.last)) run.entries (Some event) run.steps
        run.last.cycle (append-nil flat_k.entries ∙ same.entries) refl none_more same.cycle)))

    whole : flat.steps ≡ job.steps → IfShared run.event
        → FlatGives flat (kept ∷ others) run.event (record_text titles run)
    whole steps shared = whole_by run.event refl (counted _ job.steps _) steps shared

    pub repeats : FlatRepeats linked job.steps run flat (kept ∷ others)
    repeats = record { performed = performed; whole = whole }

pub headline : Headline
headline job contents outcome bytes h = record {
  links = links_exactly job contents outcome h;
  prints = λ script linked b. prints_record job contents outcome h script linked b;
  live = λ script linked n b. one_live_segment job contents script linked b bytes n;
  alike = λ script linked kept b keeps. alike job contents outcome script linked kept bytes h b keeps;
  repeats = λ script linked kept flat others b keeps same. repeats job contents outcome script linked kept bytes h b
      keeps flat others same;
}

-- what is read of files of bytes: as many contents as names, of bytes
abbrev AreRead : ℕ → Reading → Type 0
AreRead n (Whole contents) = (length contents ≡ n) × AreOfBytes contents
AreRead n other = Unit {0}

more_read : (n : ℕ) (file : List ℕ) (rest : Reading) (fits : Bool) → IsByteList file → AreRead n rest
    → AreRead (suc n) (cond fits (with_file file rest) TooLong)
more_read n file rest fits is h = grind (arith, All-cons IsByteList)

module _ (held : Files) (bytes : HoldBytes held) where
  one_read : (n : ℕ) (name : List ℕ) (o : Option (List ℕ)) (rest : Reading) → held name ≡ o → AreRead n rest
      → AreRead (suc n) (read_one name o rest)
  one_read n name o rest is h = grind (arith, more_read, bytes name)

  all_read : (names : List (List ℕ)) → AreRead (length names) (read_of held names)
  all_read [] = (refl, All-nil IsByteList)
  all_read (name ∷ names) = one_read (length names) name (held name) (read_of held names) refl (all_read names)

  pub are_read : (names contents : List (List ℕ)) → read_of held names ≡ Whole contents
      → (length contents ≡ length names) × AreOfBytes contents
  are_read names contents is = subst (AreRead (length names)) is (all_read names)

-- ---- the top call, at status 0 or 1

module _ (words : List (List ℕ)) (held : Files) (c : Change) (told : Status) (job : BuildJob)
    (asked : job_of words ≡ Some (Build job)) (bytes : HoldBytes held) (run : is_run told ≡ true) where
  ended_whole : (answer : Answer) → Ended answer c told → Written answer c told
  ended_whole answer h = grind arith

  other_answer : (answer other : Answer) → answer ≡ other → Written answer c told → is_run other.status ≡ false → ⊥
  other_answer answer other same w stays = grind arith

  of_outcome : (asks : Job) (contents : List (List ℕ)) (answer : Answer) → asks ≡ Build job
      → read_of held (names_read asks) ≡ Whole contents → HasOutcome asks contents answer → Written answer c told
      → KeepsPromise job held c told
  of_outcome asks contents answer same read has w =
      let here : HasOutcome (Build job) contents answer = rw same at has in
      let whole : read_of held (names_read (Build job)) ≡ Whole contents = rw same at read in
      record {
        contents = contents;
        read = whole;
        outcome = here.outcome;
        is = here.work;
        promised = headline job contents here.outcome (are_read held bytes (names_read (Build job)) contents whole).1
            here.work;
        done = rw here.is at w;
      }

  of_answer : (answer : Answer) → IsAnswer words held answer → Written answer c told → KeepsPromise job held c told
  of_answer answer (Faulty none is) w = absurd (cc (asked, none))
  of_answer answer (Many j asks many is) w = absurd (other_answer answer many_answer is w refl)
  of_answer answer (NoFile j name asks few read is) w = absurd (other_answer answer (unread_answer name) is w refl)
  of_answer answer (LongFile j asks few read is) w = absurd (other_answer answer long_answer is w refl)
  of_answer answer (Worked j contents asks few read has) w =
      of_outcome j contents answer (same_Some j (Build job) (sym asks ∙ asked)) read has w

  of_told : (answer : Answer) → IsAnswer words held answer ⊎ IsUnread words (Some held) c answer → Ended answer c told
      → KeepsPromise job held c told
  of_told answer (inl is) ended = of_answer answer is (ended_whole answer ended)
  of_told answer (inr unread) ended =
      absurd (other_answer answer (unread_answer c.reads.named) unread.is (ended_whole answer ended) refl)

pub chain_keeps_promise : ChainKeepsPromise
chain_keeps_promise words held c told job asked bytes tells run = by told tells (run_is run)
  where
    run_is : (told ≡ status.Ran) ⊎ (told ≡ status.Event) → is_run told ≡ true
    run_is (inl e) = ap is_run e
    run_is (inr e) = ap is_run e

    by : (told : Status) → IsTold words held c told → is_run told ≡ true → KeepsPromise job held c told
    by status.Ran t run = of_told words held c status.Ran job asked bytes run t.0 t.1 t.2
    by status.Event t run = of_told words held c status.Event job asked bytes run t.0 t.1 t.2
    by other t run = absurd (cc run)
