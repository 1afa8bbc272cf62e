-- The job that the arguments ask for.
use Rattle.std.specs.Prelude.{ℕ, List, [], ◌∷◌, Option, Some, None, codes, option_map, option_and_then, if◌then◌else◌}
use Rattle.std.specs.Str.{bytes_eq}
use Rattle.clap.specs.Words.{App, Row}
use Rattle.m51_jobs.specs.declared.job.AsmJob.{AsmJob}
use Rattle.m51_jobs.specs.declared.job.BuildJob.{BuildJob}
use Rattle.m51_jobs.specs.declared.job.FlatJob.{FlatJob}
use Rattle.m51_jobs.specs.declared.job.GenJob.{GenJob}
use Rattle.m51_jobs.specs.declared.job.LibraryJob.{LibraryJob}
use Rattle.m51_jobs.specs.declared.job.LinkJob.{LinkJob}
use Rattle.m51_jobs.specs.declared.job.PartyJob.{PartyJob}
use Rattle.m51_jobs.specs.declared.job.Job.{Job}
use Rattle.m51_jobs.specs.declared.job.Job.TheVariants.{Build, Asm, Library, Flat, Gen, Dis, Stack, Party}
use Rattle.m51_args.specs.Commands.{build_app, asm_app, lib_app, flat_app, gen_app, dis_app, stack_app, party_app}
use Rattle.m51_args.specs.Commands.{rows_in, option_value, words_of}
use Rattle.m51_jobs.specs.Endings.{are_built, are_assembled, are_boards}
use Rattle.m51_jobs.specs.Numbers.{steps_of, start_of, units_of}
use Rattle.m51_args.specs.Operations.{library_job}

-- a number of steps
abbrev pub steps_in : List Row → Option ℕ
steps_in rows = option_and_then steps_of (option_value (codes "steps") rows)

-- build [--control F] [--script F] [--hex F] --steps N FILE..
abbrev pub build_with : List Row → List (List ℕ) → ℕ → BuildJob
build_with rows files steps = record {
  control = option_value (codes "control") rows;
  script = option_value (codes "script") rows;
  hex = option_value (codes "hex") rows;
  steps = steps;
  files = files;
}

abbrev pub build_files : List Row → List (List ℕ) → Option BuildJob
build_files rows files = if are_built files then option_map (build_with rows files) (steps_in rows) else None

unfoldable pub build_of : List Row → Option BuildJob
build_of rows = option_and_then (build_files rows) (words_of rows)

-- asm --out F FILE..
abbrev pub asm_with : List (List ℕ) → List ℕ → AsmJob
asm_with files out = record { out = out; files = files }

abbrev pub asm_files : List Row → List (List ℕ) → Option AsmJob
asm_files rows files = if are_assembled files then option_map (asm_with files) (option_value (codes "out") rows)
    else None

unfoldable pub asm_of : List Row → Option AsmJob
asm_of rows = option_and_then (asm_files rows) (words_of rows)

-- lib OP L [ARG..]
abbrev pub lib_of : List Row → Option LibraryJob
lib_of rows = option_and_then library_job (words_of rows)

-- flat [--script F] --steps N F
abbrev pub flat_with : List Row → List ℕ → ℕ → FlatJob
flat_with rows file steps = record { script = option_value (codes "script") rows; steps = steps; file = file }

abbrev pub flat_file : List Row → List (List ℕ) → Option FlatJob
flat_file rows (file ∷ []) = if bytes_eq file [] then None else option_map (flat_with rows file) (steps_in rows)
flat_file rows words = None

unfoldable pub flat_of : List Row → Option FlatJob
flat_of rows = option_and_then (flat_file rows) (words_of rows)

-- gen --units U --start S --steps N
abbrev pub gen_with : ℕ → ℕ → ℕ → GenJob
gen_with units start steps = record { units = units; start = start; steps = steps }

unfoldable pub gen_of : List Row → Option GenJob
gen_of rows =
    option_and_then (λ units. option_and_then (λ start. option_map (gen_with units start) (steps_in rows))
    (option_and_then start_of (option_value (codes "start") rows)))
    (option_and_then units_of (option_value (codes "units") rows))

-- dis [--control F] FILE.., and stack with the same words
abbrev pub link_files : List Row → List (List ℕ) → Option LinkJob
link_files rows files =
    if are_built files then Some (record { control = option_value (codes "control") rows; files = files }) else None

unfoldable pub link_of : List Row → Option LinkJob
link_of rows = option_and_then (link_files rows) (words_of rows)

-- party [--script F] --steps N FILE..
abbrev pub party_with : List Row → List (List ℕ) → ℕ → PartyJob
party_with rows files steps = record { script = option_value (codes "script") rows; steps = steps; files = files }

abbrev pub party_files : List Row → List (List ℕ) → Option PartyJob
party_files rows files = if are_boards files then option_map (party_with rows files) (steps_in rows) else None

unfoldable pub party_of : List Row → Option PartyJob
party_of rows = option_and_then (party_files rows) (words_of rows)

-- what a verb's job is, where the definition of a simple command takes the words
abbrev pub asked : {A : Type 0} → App → (List Row → Option A) → (A → Job) → List (List ℕ) → Option Job
asked app job_in of words = option_map of (option_and_then job_in (rows_in app words))

-- the verb is the first word
unfoldable pub job_by : List ℕ → List (List ℕ) → Option Job
job_by verb words =
    if bytes_eq verb (codes "build") then asked build_app build_of Build words
    else if bytes_eq verb (codes "asm") then asked asm_app asm_of Asm words
    else if bytes_eq verb (codes "lib") then asked lib_app lib_of Library words
    else if bytes_eq verb (codes "flat") then asked flat_app flat_of Flat words
    else if bytes_eq verb (codes "gen") then asked gen_app gen_of Gen words
    else if bytes_eq verb (codes "dis") then asked dis_app link_of Dis words
    else if bytes_eq verb (codes "stack") then asked stack_app link_of Stack words
    else if bytes_eq verb (codes "party") then asked party_app party_of Party words
    else None

-- the job that the arguments ask for; none if they are faulty
abbrev pub job_of : List (List ℕ) → Option Job
job_of [] = None
job_of (verb ∷ words) = job_by verb (verb ∷ words)
