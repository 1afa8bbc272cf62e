-- The answer of the top call: its status and what caused it, what the shelf holds after it, and that there is one.
use Rattle.m51_chain.proofs.Common.{AreRead, Job, List, None, Option, ReadAt, Reading, Some, Status, TooLong, Whole, ap}
use Rattle.m51_chain.proofs.Common.{arith, inl, inr, read_of, refl, subst, sym, ℕ, ◌<◌, ◌∙◌, ◌≡◌, ◌≤◌, ◌⊎◌}
use Rattle.m51_shelf.specs.Shelf.{File, Files}
use Rattle.m51_chain.specs.Outcome.{Answer, long_answer, many_answer, named_answer, unread_answer, under, usage_answer}
use Rattle.m51_chain.specs.Reading.{Absent}
use Rattle.m51_chain.specs.Expected.{HasOutcome, MayKeep, IsAnswer}
use Rattle.m51_chain.specs.Carried.{IsUnkept, HoldsBut}
use Rattle.m51_args.specs.Jobs.{job_of}
use Rattle.m51_jobs.specs.Files.{name_kept, names_read, file_count}
use Rattle.std.specs.Prelude.{option_map}
use Rattle.m51_chain.specs.Outside.{Change}
use Rattle.m51_chain.specs.Told.{Ended, HoldsButKept, IsCaused, IsKeepFault, IsKeptName, IsSaid, IsTold, IsUnread}
use Rattle.m51_chain.specs.Told.{IsWorked, Written}
use Rattle.m51_chain.specs.Due.{IsDue, IsWorkFor, IsAtFor}
use Rattle.m51_cells.specs.declared.limits.TheConstants.{MOST_FILES}
use Rattle.m51_chain.specs.Complete.{Completed, IsComplete, IsUnfailed}
use Rattle.m51_chain.proofs.Readings.{long_after}
use Rattle.m51_chain.proofs.OneOutcome.{one_outcome}
use Rattle.m51_chain.specs.declared.status.Status.TheVariants as status
use Rattle.m51_chain.specs.Carried as carried
use Rattle.m51_chain.specs.Due as due
use Rattle.m51_chain.specs.Expected as answers

-- ---- what is known of files, without what only visible files give

read_untold : {holds : Option Files} {names contents : List (List ℕ)} → AreRead holds names contents
    → AreRead None names contents
read_untold read = record { count = read.count; within = read.within; held = tt }

at_untold : {job : Job} {holds : Option Files} {after : ReadAt} → IsAtFor job holds after → IsAtFor job None after
at_untold at = record {
  few = at.few;
  reached = record {
    front = at.reached.front;
    rest = at.reached.rest;
    contents = at.reached.contents;
    is = at.reached.is;
    read = read_untold at.reached.read;
  };
}

due_untold : {words : List (List ℕ)} {holds : Option Files} {before after : ReadAt} {answer : Answer}
    → IsDue words holds before after answer → IsDue words None before after answer
due_untold (due.Faulty none is) = due.Faulty none is
due_untold (due.Asked job asked (due.Many many is)) = due.Asked job asked (due.Many many is)
due_untold (due.Asked job asked (due.TooLong at long is)) =
    due.Asked job asked (due.TooLong (at_untold at) (record { taken = long.taken; held = tt }) is)
due_untold (due.Asked job asked (due.Unread at failed is)) = due.Asked job asked (due.Unread (at_untold at) failed is)
due_untold (due.Asked job asked (due.Worked work)) = due.Asked job asked (due.Worked (record {
  few = work.few;
  contents = work.contents;
  read = read_untold work.read;
  given = work.given;
  has = work.has;
}))

-- ---- a file that is kept

under_name : (name bytes : Option (List ℕ)) (file : File) → under name bytes ≡ Some file → name ≡ Some file.0
under_name (Some name) (Some bytes) file h = ap (option_map (λ (f : File). f.0)) h
under_name (Some name) None file h = absurd (cc h)
under_name None None file h = absurd (cc h)
under_name None (Some bytes) file h = absurd (cc h)

no_file : {X : Type 0} {answer other : Answer} {file : File} → answer ≡ other → other.keeps ≡ None
    → answer.keeps ≡ Some file → X
no_file is none some = absurd (cc (ap (λ (a : Answer). a.keeps) is, none, some))

-- the arguments name it, and the work of their job was done
record IsOfWork (words : List (List ℕ)) (holds : Option Files) (before after : ReadAt) (answer : Answer)
    (name : List ℕ) : Type 0 where
  job : Job
  asked : job_of words ≡ Some job
  work : IsWorkFor job holds before after answer
  named : name_kept job ≡ Some name

of_work : {words : List (List ℕ)} {holds : Option Files} {before after : ReadAt} {answer : Answer} {file : File}
    → IsDue words holds before after answer → answer.keeps ≡ Some file
    → IsOfWork words holds before after answer file.0
of_work (due.Faulty none is) some = no_file is refl some
of_work (due.Asked job asked (due.Many many is)) some = no_file is refl some
of_work (due.Asked job asked (due.TooLong at long is)) some = no_file is refl some
of_work (due.Asked job asked (due.Unread at failed is)) some = no_file is refl some
of_work {file = file} (due.Asked job asked (due.Worked work)) some = record {
  job = job;
  asked = asked;
  work = work;
  named = under_name (name_kept job) work.has.outcome.keeps file
      (sym (ap (λ (a : Answer). a.keeps) work.has.is) ∙ some);
}

by_keeps : (words : List (List ℕ)) (old new : Option Files) (keeps : Option File)
    → ((file : File) → keeps ≡ Some file → IsKeptName words file.0)
    → HoldsBut keeps old new → HoldsButKept words old new
by_keeps words old new None named same = inl same
by_keeps words old new (Some file) named others = inr (file.0, named file refl, others)

-- what the shelf holds after the answer was kept
pub holds_but_kept : (words : List (List ℕ)) (holds : Option Files) (before after : ReadAt) (answer : Answer)
    (new : Option Files)
    → IsDue words holds before after answer → HoldsBut answer.keeps holds new → HoldsButKept words holds new
holds_but_kept words holds before after answer new it h =
    by_keeps words holds new answer.keeps
    (λ file is. let of = of_work it is in record { job = of.job; asked = of.asked; named = of.named }) h

-- ---- what caused a status

worked_caused : {words : List (List ℕ)} {c : Change} (told : Status) (keeps : Option (List ℕ)) → MayKeep told keeps
    → IsWorked words c told → IsCaused words c told
worked_caused status.Usage keeps may worked = absurd may
worked_caused status.Limit keeps may worked = inl worked
worked_caused status.ReadFault keeps may worked = absurd may
worked_caused status.WriteFault keeps may worked = absurd may
worked_caused status.Memory keeps may worked = absurd may
worked_caused told keeps may worked = worked

-- an answer that was kept and written whole
done_caused : {words : List (List ℕ)} (c : Change) {answer : Answer} {told : Status}
    → IsDue words None c.reads_before c.reads answer → Written answer c told → IsCaused words c told
done_caused c (due.Faulty none is) done =
    rw (done.status, is) (record { faulty = none; done = rw (done.status, is) at done })
done_caused c (due.Asked job asked (due.Many many is)) done =
    rw (done.status, is)
    (inr (inl (record { job = job; asked = asked; many = many; done = rw (done.status, is) at done })))
done_caused c (due.Asked job asked (due.TooLong at long is)) done =
    rw (done.status, is) (inr (inr (record {
      job = job;
      asked = asked;
      at = at;
      over = omega (arith, long.taken);
      done = rw (done.status, is) at done;
    })))
done_caused c (due.Asked job asked (due.Unread at failed is)) done =
    rw (done.status, is)
    (record { job = job; asked = asked; at = at; failed = failed; done = rw (done.status, is) at done })
done_caused {words = words} c {answer = answer} {told = told} (due.Asked job asked (due.Worked work)) done =
    let status : told ≡ work.has.outcome.status = done.status ∙ ap (λ (a : Answer). a.status) work.has.is in
    worked_caused told work.has.outcome.keeps (rw status work.has.keeps)
    (record { answer = answer; job = job; asked = asked; work = work; done = done })

-- an answer whose file could not be kept
unkept_caused : {words : List (List ℕ)} (c : Change) {answer : Answer} → IsDue words None c.reads_before c.reads answer
    → IsUnkept answer c.keeps_before c.keeps → IsSaid c → IsKeepFault words c
unkept_caused c {answer = answer} it unkept said = let of = of_work it unkept.is in record {
  answer = answer;
  job = of.job;
  asked = of.asked;
  work = of.work;
  unkept = unkept;
  named = of.named ∙ ap (λ n. Some n) (sym unkept.missed);
  said = said;
}

-- an answer that is due, however it ends
pub due_caused : (words : List (List ℕ)) (holds : Option Files) (c : Change) (answer : Answer) (told : Status)
    → IsDue words holds c.reads_before c.reads answer → Ended answer c told → IsCaused words c told
due_caused words holds c answer told it (carried.Whole done) = done_caused c (due_untold it) done
due_caused words holds c answer told it (carried.Cut is cut) =
    rw is (inl (record { answer = answer; due = due_untold it; cut = cut }))
due_caused words holds c answer told it (carried.Unkept is unkept text) =
    rw is (inr (unkept_caused c (due_untold it) unkept (inl text)))
due_caused words holds c answer told it (carried.UnkeptCut is unkept rose text) =
    rw is (inr (unkept_caused c (due_untold it) unkept (inr (rose, text))))

-- ---- what is due of visible files

-- It is the answer of arguments and files, or a call on the shelf failed.
due_answer : {words : List (List ℕ)} {held : Files} (c : Change) {answer : Answer}
    → IsDue words (Some held) c.reads_before c.reads answer
    → IsAnswer words held answer ⊎ IsUnread words (Some held) c answer
due_answer c (due.Faulty none is) = inl (answers.Faulty none is)
due_answer c (due.Asked job asked (due.Many many is)) = inl (answers.Many job asked many is)
due_answer {held = held} c (due.Asked job asked (due.TooLong at long is)) =
    inl (answers.LongFile job asked at.few (long_after held (names_read job) c.reads at.reached long) is)
due_answer c (due.Asked job asked (due.Unread at failed is)) =
    inr (record { job = job; asked = asked; at = at; failed = failed; is = is })
due_answer c (due.Asked job asked (due.Worked work)) =
    inl (answers.Worked job work.contents asked work.few work.read.held work.has)

-- a status that is not out of memory
abbrev IsNoMemory : Status → Type 0
IsNoMemory status.Memory = ⊥
IsNoMemory other = Unit {0}

answer_told : {words : List (List ℕ)} {held : Files} (c : Change) (told : Status) → IsNoMemory told
    → (answer : Answer) × (IsAnswer words held answer ⊎ IsUnread words (Some held) c answer) × Ended answer c told
    → IsTold words held c told
answer_told c status.Memory some it = absurd some
answer_told c told some it = it

kept_no_memory : (s : Status) (keeps : Option (List ℕ)) → MayKeep s keeps → IsNoMemory s
kept_no_memory status.Memory keeps h = h
kept_no_memory other keeps h = tt

-- what is due is none of out of memory
due_no_memory : {words : List (List ℕ)} {holds : Option Files} {before after : ReadAt} {answer : Answer}
    → IsDue words holds before after answer → IsNoMemory answer.status
due_no_memory (due.Faulty none is) = rw is tt
due_no_memory (due.Asked job asked (due.Many many is)) = rw is tt
due_no_memory (due.Asked job asked (due.TooLong at long is)) = rw is tt
due_no_memory (due.Asked job asked (due.Unread at failed is)) = rw is tt
due_no_memory (due.Asked job asked (due.Worked work)) =
    rw (work.has.is) (kept_no_memory work.has.outcome.status work.has.outcome.keeps work.has.keeps)

-- and so is no status that it ends with
ended_no_memory : {answer : Answer} (c : Change) {told : Status} → IsNoMemory answer.status → Ended answer c told
    → IsNoMemory told
ended_no_memory c some (carried.Whole done) = rw (done.status) some
ended_no_memory c some (carried.Cut is cut) = rw is tt
ended_no_memory c some (carried.Unkept is unkept text) = rw is tt
ended_no_memory c some (carried.UnkeptCut is unkept rose text) = rw is tt

pub due_told : (words : List (List ℕ)) (held : Files) (holds : Option Files) (c : Change) (answer : Answer)
    (told : Status) → holds ≡ Some held
    → IsDue words holds c.reads_before c.reads answer → Ended answer c told → IsTold words held c told
due_told words held holds c answer told is it ended =
    let for : IsDue words (Some held) c.reads_before c.reads answer = rw is at it in
    answer_told c told (ended_no_memory c (due_no_memory for) ended) (answer, due_answer c for, ended)

-- ---- arguments and files have one answer

-- the answer by what is read
abbrev ByReading : Job → Reading → Answer → Type 0
ByReading job (Absent name) answer = answer ≡ unread_answer name
ByReading job TooLong answer = answer ≡ long_answer
ByReading job (Whole contents) answer = HasOutcome job contents answer

-- by the number of file arguments, and then by what is read
abbrev ByJob : Files → Job → Answer → Type 0
ByJob files job answer =
    ((MOST_FILES < file_count job) × (answer ≡ many_answer))
    ⊎ ((file_count job ≤ MOST_FILES) × ByReading job (read_of files (names_read job)) answer)

-- by what is asked for
abbrev ByAsked : Files → Option Job → Answer → Type 0
ByAsked files None answer = answer ≡ usage_answer
ByAsked files (Some job) answer = ByJob files job answer

by_asked : {words : List (List ℕ)} {files : Files} {answer : Answer} → IsAnswer words files answer
    → ByAsked files (job_of words) answer
by_asked (answers.Faulty none is) = rw none is
by_asked (answers.Many job asked many is) = rw asked (inl (many, is))
by_asked (answers.NoFile job name asked few absent is) = rw asked (inr (few, rw absent is))
by_asked (answers.LongFile job asked few long is) = rw asked (inr (few, rw long is))
by_asked (answers.Worked job contents asked few whole has) = rw asked (inr (few, rw whole has))

one_reading : (job : Job) (r : Reading) (a b : Answer) → ByReading job r a → ByReading job r b → a ≡ b
one_reading job (Whole contents) a b h k =
    h.is ∙ ap (named_answer (name_kept job)) (one_outcome job contents h.outcome k.outcome h.work k.work) ∙ sym k.is
one_reading job (Absent name) a b h k = h ∙ sym k
one_reading job TooLong a b h k = h ∙ sym k

one_asked : (files : Files) (asked : Option Job) (a b : Answer) → ByAsked files asked a → ByAsked files asked b → a ≡ b
one_asked files None a b h k = h ∙ sym k
one_asked files (Some job) a b (inl many) (inl more) = many.1 ∙ sym more.1
one_asked files (Some job) a b (inr few) (inr less) = one_reading job (read_of files (names_read job)) a b few.1 less.1
one_asked files (Some job) a b (inl many) (inr few) = absurd (omega (arith, many.0, few.0))
one_asked files (Some job) a b (inr few) (inl many) = absurd (omega (arith, many.0, few.0))

pub one_answer : (words : List (List ℕ)) (files : Files) (a b : Answer) → IsAnswer words files a
    → IsAnswer words files b → a ≡ b
one_answer words files a b h k = one_asked files (job_of words) a b (by_asked h) (by_asked k)

-- ---- and it is given, if no call fails

-- an answer that ended without a failed call is kept and written whole
whole : {answer : Answer} {c : Change} {told : Status} → IsUnfailed c → Ended answer c told → Written answer c told
whole none (carried.Whole done) = done
whole none (carried.Cut is cut) = absurd (none.sink cut.rose)
whole none (carried.Unkept is unkept text) = absurd (none.keeps unkept.rose)
whole none (carried.UnkeptCut is unkept rose text) = absurd (none.keeps unkept.rose)

abbrev IsAnswered : List (List ℕ) → Files → Change → Status → Type 0
IsAnswered words held c told = (a : Answer) × (IsAnswer words held a ⊎ IsUnread words (Some held) c a) × Ended a c told

answered : (words : List (List ℕ)) (held : Files) (c : Change) (answer : Answer) (told : Status)
    → IsAnswer words held answer → IsUnfailed c
    → IsAnswered words held c told → Completed answer c told
answered words held c answer told is none (other, inl also, ended) =
    inr (subst (λ a. Written a c told) (one_answer words held other answer also is) (whole none ended))
answered words held c answer told is none (other, inr unread, ended) = absurd (none.reads unread.failed.rose)

pub completed : (words : List (List ℕ)) (held : Files) (c : Change) (answer : Answer) (told : Status)
    → IsTold words held c told
    → IsAnswer words held answer → IsComplete answer c told
completed words held c answer status.Memory it is = λ none. inl (refl, it)
completed words held c answer told it is = λ none. answered words held c answer told is none it
