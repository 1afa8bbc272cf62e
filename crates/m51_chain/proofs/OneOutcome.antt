-- A job and its contents have one outcome.
use Rattle.m51_chain.proofs.Common.{AreBoardsOf, BoardState, Chain, Err, Follows, IMAGE_LEN, InputError, InputsTree}
use Rattle.m51_chain.proofs.Common.{IsBoardOf, IsInputsOutcome, IsLinkedOutcome, IsOutcome, IsPartyWork}
use Rattle.m51_chain.proofs.Common.{IsProgramOutcome, IsSound, IsStarted, Job, LayoutParts, Linked, List, ModuleParts}
use Rattle.m51_chain.proofs.Common.{None, Option, Program, Refusal, Result, Run, Script, SourceFile, Unlinked, [], ap}
use Rattle.m51_chain.proofs.Common.{arith, generated, has_event, hex_outcome, inl, inr, length, link_outcome, refl}
use Rattle.m51_chain.proofs.Common.{script_outcome, subst, suc, sym, vectors, zero, ℕ, ◌+◌, ◌<◌, ◌∙◌, ◌∷◌, ◌≡◌, ◌≤◌}
use Rattle.m51_chain.specs.Parties.{IsPartyReport, party_report}
use Rattle.std.proofs.Common.{◌%◌, ◌/◌}
use Rattle.m51_linker.specs.Link.{IsLinked, AreRoots}
use Rattle.std.specs.List.{All, AllPairs, Contains}
use Rattle.std.proofs.lemmas.List.Elements.{All-head, All-tail, All-contains}
use Rattle.m51_asm.specs.Answer.{AnswerTree}
use Rattle.m51_module.specs.Chains.{ChainsAt, ComesFirst, IsHeaviest}
use Rattle.m51_chain.specs.ProgramFiles.{Given, IsFilesOutcome, IsGivenOutcome, ProgramFiles, Refused, script_content}
use Rattle.m51_chain.specs.ProgramFiles.{control_content, word_contents}
use Rattle.m51_chain.specs.Analyses.{IsBounded, IsDisassembled, bound_outcome}
use Rattle.m51_chain.specs.Generates.{IsCounted, IsGenOutcome, IsGenerated}
use Rattle.m51_chain.specs.Programs.{IsReport, program_report}
use Rattle.m51_chain.specs.FlatRuns.{IsScripted, flat_report, IsFlatOutcome}
use Rattle.m51_chain.specs.Outcome.{Outcome, status_if}
use Rattle.m51_chain.specs.Assembles.{assembled_outcome, IsOneOutcome}
use Rattle.m51_text.specs.Answer.{text_of}
use Rattle.std.proofs.lemmas.List.{ext_get_or}
use Rattle.m51_asm.proofs.AnsweredLines.{one_answer as one_text}
use Rattle.m51_hex.specs.Memory.{memory_in}
use Rattle.m51_inputs.proofs.OneEach.{one_answer as one_for_files}
use Rattle.m51_linker.specs.Image.{IsFilled, IsImage}
use Rattle.m51_party.specs.Family.{Family}
use Rattle.m51_party.proofs.SameBoards.{AllAlike, AreAlike, family_alike, text_alike}
use Rattle.m51_stackbound.proofs.Unique.{answer_is_unique}
use Rattle.m51_jobs.specs.declared.job.FlatJob.{FlatJob}
use Rattle.m51_jobs.specs.declared.job.GenJob.{GenJob}
use Rattle.m51_chain.specs.InputRefusals.{input_outcome}
use Rattle.m51_chain.proofs.Accepted.{ok_same}
use Rattle.m51_chain.proofs.Joined.{all_fresh}
use Rattle.std.proofs.lemmas.Bool.Decides.{eqb_tells, leb_tells}
use Rattle.m51_graph.specs.declared.parts.GraphParts.{GraphParts}
use Rattle.m51_graph.specs.Graph.{AreBits}
use Rattle.m51_linker.specs.Runs.{AreRuns, IsInRun, IsWholeRun}
use Rattle.m51_place.specs.declared.placing.Placing.{Placing}
use Rattle.m51_module.specs.Plan.{IsRootAt}
use Rattle.m51_module.proofs.Units.{one_root}
use Rattle.m51_jobs.specs.declared.job.Job.TheVariants as jobs
use Rattle.m51_asm.specs.Answer as answers
use Rattle.m51_chain.specs.FlatRuns as flats
use Rattle.m51_chain.specs.Parties as parties

-- ---- one byte of roots for a unit, and one image

-- numbers with the same lowest bit and the same others
same_bits : (x y : ℕ) → (x % 2 ≡ 1 → y % 2 ≡ 1) → (y % 2 ≡ 1 → x % 2 ≡ 1) → x / 2 ≡ y / 2 → x ≡ y
same_bits x y to from others =
    elim (eqb_tells (x % 2) 1) [
      | inl one ↦ let other = to one.1 in omega (arith, one.1, other, others)
      | inr none ↦ elim (eqb_tells (y % 2) 1) [
        | inl one ↦ absurd (none.1 (from one.1))
        | inr other ↦ same_even x y none.1 other.1 others
      ]
    ]
  where
    same_even : (a b : ℕ) → (a % 2 ≡ 1 → ⊥) → (b % 2 ≡ 1 → ⊥) → a / 2 ≡ b / 2 → a ≡ b
    same_even a b one two same = omega (arith, one, two, same)

same_roots : (g : GraphParts) (unit : ℕ) (at : List ℕ) (x y : ℕ) → AreBits g unit at x → AreBits g unit at y → x ≡ y
same_roots g unit [] x y one two = one ∙ sym two
same_roots g unit (vector ∷ at) x y one two =
    same_bits x y (λ set. two.0.1 (one.0.0 set)) (λ set. one.0.1 (two.0.0 set))
    (same_roots g unit at (x / 2) (y / 2) one.1 two.1)

one_roots : (g : GraphParts) (one two : List ℕ) → AreRoots g one → AreRoots g two → one ≡ two
one_roots g one two h k =
    ext_get_or 0 one two (h.len ∙ sym k.len)
    (λ unit below. same_roots g unit vectors _ _ (h.each unit (omega (arith, below, h.len)))
    (k.each unit (omega (arith, below, h.len))))

one_image : (modules : List ModuleParts) (placing : Placing) (one two : List ℕ) → IsImage modules placing one
    → IsImage modules placing two → one ≡ two
one_image modules placing one two h k =
    ext_get_or 0 one two (h.len ∙ sym k.len)
    (λ at below. h.each at (omega (arith, below, h.len)) ∙ sym (k.each at (omega (arith, below, h.len))))

-- ---- one list of runs that content fills

module _ (P : ℕ → Type 0) where
  -- runs that begin at an address or above, and have what is filled from there on
  record AreFrom (from : ℕ) (runs : List Run) : Type 0 where
    whole : All (IsWholeRun P) runs
    later : All (λ r. from ≤ r.first) runs
    all : (address : ℕ) → from ≤ address → P address → (run : Run) × Contains runs run × IsInRun run address
    ascending : AllPairs (λ one two. one.first + one.len < two.first) runs

  module _ {from : ℕ} {run : Run} {more : List Run} (h : AreFrom from (run ∷ more)) where
    -- the first run begins there or above, and its first address is filled
    whole_first : IsWholeRun P run
    whole_first = All-head (IsWholeRun P) run more h.whole

    above : from ≤ run.first
    above = All-head (λ (r : Run). from ≤ r.first) run more h.later

    first_filled : P run.first
    first_filled =
        whole_first.filled run.first (record { from = omega arith; below = omega (arith, whole_first.some) })

    -- what follows it
    rest : AreFrom (run.first + run.len) more
    rest = record {
      whole = All-tail (IsWholeRun P) run more h.whole;
      later = λ k d below. omega (arith, h.ascending 0 (suc k) d (omega arith) (omega (arith, below)));
      all = λ address after filled. after_first address after (h.all address (omega (arith, after, above)) filled);
      ascending = λ i j d before below. h.ascending (suc i) (suc j) d (omega (arith, before)) (omega (arith, below));
    }
      where
        after_first : (address : ℕ) → run.first + run.len ≤ address
            → (r : Run) × Contains (run ∷ more) r × IsInRun r address
            → (r : Run) × Contains more r × IsInRun r address
        after_first address after (r, (zero, low, is), inside) =
            let within : address < run.first + run.len = rw (← is) at inside.below in
            absurd (omega (arith, after, within))
        after_first address after (r, (suc k, low, is), inside) = (r, (k, omega (arith, low), is), inside)

    -- nothing is filled before it
    not_before : (address : ℕ) → from ≤ address → P address → run.first ≤ address
    not_before address high filled = by_run (h.all address high filled)
      where
        by_run : (r : Run) × Contains (run ∷ more) r × IsInRun r address → run.first ≤ address
        by_run (r, (zero, low, is), inside) = rw is inside.from
        by_run (r, (suc k, low, is), inside) =
            let after : run.first + run.len ≤ r.first =
            All-contains (λ r. run.first + run.len ≤ r.first) more r rest.later (k, omega (arith, low), is) in
            omega (arith, after, inside.from)

    not_none : AreFrom from [] → ⊥
    not_none k = let found = k.all run.first above first_filled in omega (arith, found.1.1)

  module _ {from : ℕ} {x y : Run} {xs ys : List Run} (h : AreFrom from (x ∷ xs)) (k : AreFrom from (y ∷ ys)) where
    first_low : x.first ≤ y.first
    first_low = not_before h y.first (above k) (first_filled k)

    end_low : x.first ≡ y.first → y.len ≤ x.len
    end_low same =
        elim (leb_tells y.len x.len) [
          | inl low ↦ low.1
          | inr high ↦ absurd ((whole_first h).after
              ((whole_first k).filled (x.first + x.len)
              (record { from = omega (arith, same); below = omega (arith, same, high.1) })))
        ]

  same_from : (from : ℕ) (xs ys : List Run) → AreFrom from xs → AreFrom from ys → xs ≡ ys
  same_from from [] [] h k = refl
  same_from from [] (y ∷ ys) h k = absurd (not_none k h)
  same_from from (x ∷ xs) [] h k = absurd (not_none h k)
  same_from from (x ∷ xs) (y ∷ ys) h k =
      let first : x.first ≡ y.first = omega (arith, first_low h k, first_low k h) in
      let len : x.len ≡ y.len = omega (arith, end_low h k first, end_low k h (sym first)) in
      let end : y.first + y.len ≡ x.first + x.len = omega (arith, first, len) in
      let others : xs ≡ ys = same_from (x.first + x.len) xs ys (rest h) (rw end at (rest k)) in
      let same : x ≡ y = λ i. record { first = first i; len = len i } in
      cc (same, others)

  one_runs : (one two : List Run) → AreRuns P one → AreRuns P two → one ≡ two
  one_runs one two h k = same_from 0 one two (all_from one h) (all_from two k)
    where
      all_from : (runs : List Run) → AreRuns P runs → AreFrom 0 runs
      all_from runs h = record {
        whole = h.whole;
        later = λ k d below. omega arith;
        all = λ address above filled. h.all address filled;
        ascending = h.ascending;
      }

-- ---- one list of heaviest chains of a sound layout

-- of two lists that come first, each before the other, there is one
one_first : (xs ys : List ℕ) → ComesFirst xs ys → ComesFirst ys xs → xs ≡ ys
one_first [] [] h k = refl
one_first [] (y ∷ ys) h k = absurd k
one_first (x ∷ xs) ys h k = grind (arith, one_first xs)

module _ (l : LayoutParts) (sound : IsSound l) where
  -- of walks that weigh the most there is one that comes first
  one_more : (one two : Chain) → one.root ≡ two.root → (h : IsHeaviest l one) → (k : IsHeaviest l two) → h.more ≡ k.more
  one_more one two root h k =
      let mine = h.most k.more (rw (← root) at k.walk) in
      let other = k.most h.more (rw root at h.walk) in
      grind (arith, h.bytes, k.bytes, one_first h.more k.more)

  one_chain : (vector : ℕ) (one two : Chain) → IsRootAt l vector one.root → IsRootAt l vector two.root
      → IsHeaviest l one → IsHeaviest l two → one ≡ two
  one_chain vector one two at to h k =
      let root : one.root ≡ two.root = one_root l sound vector one.root two.root at to in
      let more = one_more one two root h k in
      let units : one.units ≡ two.units = h.units ∙ cc (root, more) ∙ sym k.units in
      let bytes : one.bytes ≡ two.bytes = h.bytes ∙ cc (root, more) ∙ sym k.bytes in
      λ i. record { root = root i; bytes = bytes i; units = units i }

  one_list : (at : List ℕ) (one two : List Chain) → ChainsAt l at one → ChainsAt l at two → one ≡ two
  one_list [] [] [] h k = refl
  one_list [] [] (c ∷ two) h k = absurd k
  one_list [] (c ∷ one) two h k = absurd h
  one_list (vector ∷ at) [] [] h k = refl
  one_list (vector ∷ at) [] (c ∷ two) h (inl k) = one_list at [] (c ∷ two) h.1 k.1
  one_list (vector ∷ at) [] (c ∷ two) h (inr k) = absurd (h.0 c.root k.0)
  one_list (vector ∷ at) (c ∷ one) [] (inl h) k = one_list at (c ∷ one) [] h.1 k.1
  one_list (vector ∷ at) (c ∷ one) [] (inr h) k = absurd (k.0 c.root h.0)
  one_list (vector ∷ at) (c ∷ one) (d ∷ two) (inl h) (inl k) = one_list at (c ∷ one) (d ∷ two) h.1 k.1
  one_list (vector ∷ at) (c ∷ one) (d ∷ two) (inl h) (inr k) = absurd (h.0 d.root k.0)
  one_list (vector ∷ at) (c ∷ one) (d ∷ two) (inr h) (inl k) = absurd (k.0 c.root h.0)
  one_list (vector ∷ at) (c ∷ one) (d ∷ two) (inr h) (inr k) =
      let first = one_chain vector c d h.0 k.0 h.1 k.1 in
      let others = one_list at one two h.2 k.2 in
      cc (first, others)

-- ---- one outcome of a program, and of files

pub err_same : {A E : Type 0} (r : Result A E) (x y : E) → r ≡ Err x → r ≡ Err y → x ≡ y
err_same r x y h k = cc (h, k)

-- a program is linked in one way
pub one_linked : (p : Program) (a b : Linked) → IsLinked p a → IsLinked p b → a ≡ b
one_linked p a b h k i = record {
  layout = (h.layout ∙ sym k.layout) i;
  image = one_image p.modules p.placing a.image b.image h.image k.image i;
  written = one_runs (IsFilled p.modules p.placing) a.written b.written h.written k.written i;
  roots = one_roots p.graph a.roots b.roots h.roots k.roots i;
}

-- one thing comes of each of these
abbrev OnlyOne : {A : Type 0} → (A → Outcome → Type 0) → Type 0
OnlyOne {A} Is = (it : A) (x y : Outcome) → Is it x → Is it y → x ≡ y

one_program : {program : Result Program Refusal} {Is : Linked → Outcome → Type 0} {a b : Outcome} → OnlyOne Is
    → IsProgramOutcome program Is a → IsProgramOutcome program Is b → a ≡ b
one_program only (Follows p l is are one) (Follows q m also bre two) =
    let linked : l ≡ m = one_linked q l m (rw (ok_same _ _ _ is also) at are) bre in
    only m _ _ (rw linked at one) two
one_program only (Unlinked why is one) (Unlinked other also two) =
    one ∙ ap link_outcome (err_same _ why other is also) ∙ sym two
one_program only (Unlinked why is one) (Follows q m also bre two) = absurd (cc (is, also))
one_program only (Follows p l is are one) (Unlinked why also two) = absurd (cc (is, also))

one_given : {files : ProgramFiles} {Is : InputsTree → Outcome → Type 0} {given : Result InputsTree InputError}
    {a b : Outcome} → OnlyOne Is → IsGivenOutcome files Is given a → IsGivenOutcome files Is given b → a ≡ b
one_given only (Given inputs is one) (Given others also two) =
    only others _ _ (rw (ok_same _ _ _ is also) at one) two
one_given {files = files} only (Refused e is one) (Refused f also two) =
    one ∙ ap (input_outcome files.words) (err_same _ e f is also) ∙ sym two
one_given only (Refused e is one) (Given others also two) = absurd (cc (is, also))
one_given only (Given inputs is one) (Refused e also two) = absurd (cc (is, also))

one_answered_files : {files : ProgramFiles} {contents : List (List ℕ)} {Is : InputsTree → Outcome → Type 0}
    {a b : Outcome} → OnlyOne Is → IsFilesOutcome files contents Is a → IsFilesOutcome files contents Is b → a ≡ b
one_answered_files {files = files} {contents = contents} only h k =
    let one = one_for_files one_text files.words (word_contents files contents) (control_content files contents)
    (script_content files contents) in
    let same : h.given ≡ k.given = one.only h.given h.answer ∙ sym (one.only k.given k.answer) in
    one_given only (rw same at h.is) k.is

one_files : {files : ProgramFiles} {contents : List (List ℕ)} {a b : Outcome} (Is : Script → Linked → Outcome → Type 0)
    → ((script : Script) → OnlyOne (Is script)) → IsLinkedOutcome files contents Is a
    → IsLinkedOutcome files contents Is b → a ≡ b
one_files Is only h k =
    one_answered_files {Is = IsInputsOutcome Is} (λ inputs x y i j. one_program (only inputs.script) i j) h k

-- ---- one outcome of each verb

one_report : (linked : Linked) (hex : Option (List ℕ)) (script : Script) (steps : ℕ) (a b : Outcome)
    → IsReport linked hex script steps a
    → IsReport linked hex script steps b → a ≡ b
one_report linked hex script steps a b h k =
    let chains = one_list linked.layout k.sound vectors h.chains k.chains h.heaviest k.heaviest in
    h.is ∙ ap (λ c. program_report linked c hex script steps) chains ∙ sym k.is

one_bounded : (layout : LayoutParts) (image : List ℕ) (a b : Outcome) → IsBounded layout image a
    → IsBounded layout image b → a ≡ b
one_bounded layout image a b h k =
    let same : h.answer ≡ k.answer =
    answer_is_unique layout image h.sound h.answer k.answer h.tied k.tied h.answers k.answers in
    h.is ∙ ap (bound_outcome layout) same ∙ sym k.is

one_asm : (files : List (List ℕ)) (sources includes : List SourceFile) (a b : Outcome)
    → IsOneOutcome files sources includes a
    → IsOneOutcome files sources includes b → a ≡ b
one_asm files (source ∷ []) includes a b h k =
    let one = one_text source.name (text_of source includes) in
    h.is ∙ ap (assembled_outcome files source includes)
    (one.only h.answer h.answered ∙ sym (one.only k.answer k.answered)) ∙ sym k.is
one_asm files sources includes a b h k = absurd h

-- images of the same memory
one_memory : (a b : List ℕ) → length a ≡ IMAGE_LEN → length b ≡ IMAGE_LEN → memory_in a ≡ memory_in b → a ≡ b
one_memory a b one two same = ext_get_or 0xFF a b (one ∙ sym two) (λ at below. ap (λ (m : ℕ → ℕ). m at) same)

one_scripted : {job : FlatJob} {image : List ℕ} {script : Option (List ℕ)} {a b : Outcome}
    → IsScripted job image script a → IsScripted job image script b → a ≡ b
one_scripted {job = job} {image = image} (flats.Ran with is one) (flats.Ran other also two) =
    one ∙ ap (λ s. flat_report image s job.steps) (ok_same _ with other is also) ∙ sym two
one_scripted (flats.ScriptRefused e is one) (flats.ScriptRefused f also two) =
    one ∙ ap script_outcome (err_same _ e f is also) ∙ sym two
one_scripted (flats.ScriptRefused e is one) (flats.Ran with also two) = absurd (cc (is, also))
one_scripted (flats.Ran with is one) (flats.ScriptRefused e also two) = absurd (cc (is, also))

one_run : (job : FlatJob) (contents : List (List ℕ)) (a b : Outcome) → IsFlatOutcome job contents a
    → IsFlatOutcome job contents b → a ≡ b
one_run job (file ∷ others) a b (flats.HexRead image whole is one) (flats.HexRead other all also two) =
    let same = one_memory image other whole all (ok_same _ (memory_in image) (memory_in other) is also) in
    one_scripted (rw same at one) two
one_run job (file ∷ others) a b (flats.HexRefused e is one) (flats.HexRefused f also two) =
    one ∙ ap (hex_outcome job.file) (err_same _ e f is also) ∙ sym two
one_run job (file ∷ others) a b (flats.HexRefused e is one) (flats.HexRead image whole also two) =
    absurd (cc (is, also))
one_run job (file ∷ others) a b (flats.HexRead image whole is one) (flats.HexRefused e also two) =
    absurd (cc (is, also))
one_run job [] a b h k = absurd h

one_generated : (job : GenJob) (a b : Outcome) → IsGenOutcome job a → IsGenOutcome job b → a ≡ b
one_generated job a b h k =
    let source : SourceFile = generated job.units job.start in
    let one = one_text source.name (text_of source []) in
    let same : h.answer ≡ k.answer = one.only h.answer h.answered ∙ sym (one.only k.answer k.answered) in
    by_answer source k.answer (subst (λ x. IsGenerated source job.steps x a) same h.is) k.is
  where
    by_answer : (source : SourceFile) (answer : AnswerTree) → IsGenerated source job.steps answer a
        → IsGenerated source job.steps answer b → a ≡ b
    by_answer source (answers.Faults faults) h k = h ∙ sym k
    by_answer source (answers.Gives parts rows) h k =
        one_program {Is = IsCounted job.steps} (λ linked x y i j. i ∙ sym j) h k

-- boards of the same program and script
one_board : (script : Script) (p : Program) (b c : BoardState) → IsBoardOf script p b → IsBoardOf script p c
    → AreAlike b c
one_board script p b c h k =
    let started : IsStarted k.linked.layout k.linked.image script b =
    rw (one_linked p h.linked k.linked h.is k.is) at h.started in
    record {
      layout = started.layout_is ∙ sym k.started.layout_is;
      image = started.image_is ∙ sym k.started.image_is;
      script = started.script_is ∙ sym k.started.script_is;
      state = started.state ∙ sym k.started.state;
    }

one_for_each : (script : Script) (ps : List Program) (bs cs : List BoardState) → AreBoardsOf script ps bs
    → AreBoardsOf script ps cs → AllAlike bs cs
one_for_each script [] [] [] h k = tt
one_for_each script (p ∷ ps) (b ∷ bs) (c ∷ cs) h k =
    (one_board script p b c h.0 k.0, one_for_each script ps bs cs h.1 k.1)
one_for_each script ps bs cs h k = grind arith

one_joined : (script : Script) (ps : List Program) (bs cs : List BoardState) (steps : ℕ) (a b : Outcome)
    → AreBoardsOf script ps bs → AreBoardsOf script ps cs
    → IsPartyReport bs steps a → IsPartyReport cs steps b → a ≡ b
one_joined script ps bs cs steps a b h k one two =
    let alike : AllAlike bs cs = one_for_each script ps bs cs h k in
    let family : one.family ≡ two.family =
    family_alike bs cs steps one.family two.family alike (all_fresh script ps cs k) one.belongs two.belongs in
    one.is ∙ ap (party_report bs steps) family
    ∙ ap (λ text. report_with two.family text) (text_alike bs cs steps two.family alike) ∙ sym two.is
  where
    report_with : Family → List ℕ → Outcome
    report_with family text = record { status = status_if (has_event family); text = text; keeps = None }

one_party : (steps : ℕ) (inputs : InputsTree) (a b : Outcome) → IsPartyWork steps inputs a → IsPartyWork steps inputs b
    → a ≡ b
one_party steps inputs a b (parties.Ran ps bs is are one) (parties.Ran qs cs also bre two) =
    one_joined inputs.script qs bs cs steps a b
    (subst (λ x. AreBoardsOf inputs.script x bs) (ok_same _ ps qs is also) are) bre one two
one_party steps inputs a b (parties.Unlinked why is one) (parties.Unlinked other also two) =
    one ∙ ap link_outcome (err_same _ why other is also) ∙ sym two
one_party steps inputs a b (parties.Unlinked why is one) (parties.Ran qs cs also bre two) = absurd (cc (is, also))
one_party steps inputs a b (parties.Ran ps bs is are one) (parties.Unlinked why also two) = absurd (cc (is, also))

pub one_outcome : (job : Job) (contents : List (List ℕ)) (a b : Outcome) → IsOutcome job contents a
    → IsOutcome job contents b → a ≡ b
one_outcome (jobs.Build job) contents a b h k =
    one_files (λ script linked. IsReport linked job.hex script job.steps)
    (λ script linked. one_report linked job.hex script job.steps) h k
one_outcome (jobs.Asm job) contents a b h k = one_asm job.files _ _ a b h k
one_outcome (jobs.Library job) contents a b h k = h ∙ sym k
one_outcome (jobs.Flat job) contents a b h k = one_run job contents a b h k
one_outcome (jobs.Gen job) contents a b h k = one_generated job a b h k
one_outcome (jobs.Dis job) contents a b h k =
    one_files (λ script linked. IsDisassembled linked.layout linked.image) (λ script linked x y i j. i ∙ sym j) h k
one_outcome (jobs.Stack job) contents a b h k =
    one_files (λ script linked. IsBounded linked.layout linked.image)
    (λ script linked. one_bounded linked.layout linked.image) h k
one_outcome (jobs.Party job) contents a b h k = one_answered_files (one_party job.steps) h k
