-- What the arguments ask for: options of this program, and then those of `build`.
use Rattle.std.specs.Prelude.{ℕ, ◌+◌, Bool, true, false, nat_lt, if◌then◌else◌, List, ◌∷◌, codes, drop, slice_get}
use Rattle.std.specs.Prelude.{Option}
use Rattle.std.specs.Prelude.{Some, None, is_none, option_and_then, option_map}
use Rattle.std.specs.Str.{bytes_eq}
use Rattle.m51_args.specs.Jobs.{job_of}
use Rattle.m51_jobs.specs.declared.job.Job.{Job}
use Rattle.m51_jobs.specs.declared.job.Job.TheVariants.{Build}
use Rattle.m51_jobs.specs.Numbers.{start_of}
use Rattle.m51_steps.specs.declared.shape.Shape.{Shape}
use Rattle.m51_steps.specs.declared.shape.Shape.TheVariants.{Lines, Ram, Counts}
use Rattle.m51_trace.specs.declared.requests.Chosen.{Chosen}
use Rattle.m51_trace.specs.declared.requests.Taken.{Taken}

-- the word, if there is one, is this
abbrev pub is_text : List ℕ → Option (List ℕ) → Bool
is_text text None = false
is_text text (Some word) = bytes_eq word text

-- the word of that number is this
abbrev pub is_word : List (List ℕ) → ℕ → List ℕ → Bool
is_word words at text = is_text text (slice_get words at)

-- the number of a state: 1 to 10 digits, of a value below 4,294,967,296
abbrev pub number_at : List (List ℕ) → ℕ → Option ℕ
number_at words at = option_and_then start_of (slice_get words at)

-- a number, and how many words are taken with it
abbrev pub taken : ℕ → ℕ → Taken
taken count number = record { number = number; count = count }

-- an option with its number, if this comes next, and else the number that is meant without it
abbrev pub option_at : List (List ℕ) → ℕ → List ℕ → ℕ → Option Taken
option_at words at name default =
    if is_word words at name then option_map (taken (at + 2)) (number_at words (at + 1))
    else Some (taken at default)

-- what is written, and how many words say so
abbrev pub chosen : Shape → ℕ → Chosen
chosen shape count = record { shape = shape; count = count }

-- lines for the states from the first to the last, with internal RAM or without
abbrev pub lines_for : Bool → ℕ → ℕ → Shape
lines_for true first last = Ram (record { first = first; last = last })
lines_for false first last = Lines (record { first = first; last = last })

-- none where the last comes before the first
abbrev pub window_of : Bool → ℕ → Taken → Option Chosen
window_of ram first last =
    if nat_lt last.number first then None else Some (chosen (lines_for ram first last.number) last.count)

abbrev pub to_last : List (List ℕ) → Bool → Taken → Option Chosen
to_last words ram first =
    option_and_then (window_of ram first.number) (option_at words first.count (codes "--to") 4294967295)

-- [--ram] [--from A] [--to B]
abbrev pub lines_chosen : List (List ℕ) → Bool → ℕ → Option Chosen
lines_chosen words ram at = option_and_then (to_last words ram) (option_at words at (codes "--from") 0)

-- --counts, or those
unfoldable pub choice_of : List (List ℕ) → Option Chosen
choice_of words =
    if is_word words 0 (codes "--counts") then Some (chosen Counts 1)
    else (if is_word words 0 (codes "--ram") then lines_chosen words true 1 else lines_chosen words false 0)

-- what is asked for: what is written of the run, and the words of `build`
pub record Request : Type 0 where
  pub shape : Shape
  pub words : List (List ℕ)

-- the job is a build that keeps no HEX
abbrev pub is_run : Option Job → Bool
is_run (Some (Build job)) = is_none job.hex
is_run other = false

-- the words of `build`, which follow those of this program
abbrev pub build_words : List (List ℕ) → ℕ → List (List ℕ)
build_words words count = codes "build" ∷ drop count words

abbrev pub request_by : List (List ℕ) → Chosen → Option Request
request_by words c =
    if is_run (job_of (build_words words c.count))
    then Some (record { shape = c.shape; words = build_words words c.count }) else None

-- none if the arguments are faulty
abbrev pub request_of : List (List ℕ) → Option Request
request_of words = option_and_then (request_by words) (choice_of words)
