-- A job of asm has one source, one of gen makes 1 to 100 units, and one of party has 2 to 8 sources.
use Rattle.m51_chain.proofs.Common.{Bool, Job, List, None, Option, Some, [], cond, false, refl, subst, take, true, ℕ}
use Rattle.m51_chain.proofs.Common.{◌∷◌, ◌≡◌, ◌≤◌}
use Rattle.std.proofs.lemmas.Bool.{and_parts, leb-true, eqb-true}
use Rattle.std.specs.Prelude.{codes, option_map, option_and_then, count_by}
use Rattle.m51_jobs.specs.Endings.{is_source, are_assembled, are_boards}
use Rattle.m51_args.specs.Jobs.{job_of, asked, asm_files, asm_of, asm_with, gen_with, steps_in, build_of, lib_of}
use Rattle.m51_args.specs.Jobs.{flat_of, gen_of, link_of, party_files, party_of, party_with, job_by}
use Rattle.std.specs.Str.{bytes_eq}
use Rattle.std.specs.Str.Parse.{digits_value}
use Rattle.std.proofs.lemmas.Option.{cond_some}
use Rattle.clap.specs.Words.{App, Row}
use Rattle.m51_jobs.specs.declared.job.Job.TheVariants.{Build, Asm, Library, Flat, Gen, Dis, Stack, Party}
use Rattle.m51_jobs.specs.Numbers.{decimal_within, start_of, units_of}
use Rattle.m51_args.specs.Commands.{build_app, asm_app, lib_app, flat_app, gen_app, dis_app, stack_app, party_app}
use Rattle.m51_args.specs.Commands.{rows_in, option_value, words_of}
use Rattle.m51_chain.specs.Asked.{IsFit}

-- what is known of a job, if there is one
abbrev HasOne : Option Job → Type 0
HasOne None = Unit {0}
HasOne (Some job) = IsFit job

-- the job of what comes of an option
mapped : {A B : Type 0} (of : B → Job) (go : A → Option B) (o : Option A) → ((a : A) → HasOne (option_map of (go a)))
    → HasOne (option_map of (option_and_then go o))
mapped of go None one = tt
mapped of go (Some a) one = one a

asm_one : (b : Bool) (files : List (List ℕ)) (out : Option (List ℕ)) → are_assembled files ≡ b
    → HasOne (option_map Asm (cond b (option_map (asm_with files) out) None))
unfolding are_assembled
asm_one true files (Some o) is = eqb-true (count_by is_source files) 1 (and_parts _ _ is).1
asm_one b files out is = tt

asm_rows : (rows : Option (List Row)) → HasOne (option_map Asm (option_and_then asm_of rows))
unfolding asm_of
asm_rows rows =
    mapped Asm asm_of rows (λ rs. mapped Asm (asm_files rs) (words_of rs) (λ files. asm_one _ files _ refl))

party_one : (b : Bool) (rows : List Row) (files : List (List ℕ)) (steps : Option ℕ) → are_boards files ≡ b
    → HasOne (option_map Party (cond b (option_map (party_with rows files) steps) None))
party_one true rows files (Some n) is = is
party_one b rows files steps is = tt

party_rows : (rows : Option (List Row)) → HasOne (option_map Party (option_and_then party_of rows))
unfolding party_of
party_rows rows =
    mapped Party party_of rows
    (λ rs. mapped Party (party_files rs) (words_of rs) (λ files. party_one _ rs files _ refl))

number_within : (most low high : ℕ) (text : List ℕ) (n : ℕ) → decimal_within most low high text ≡ Some n
    → (low ≤ n) × (n ≤ high)
unfolding decimal_within
number_within most low high text n h =
    let found = cond_some _ _ n h in
    let last = and_parts _ _ found.0 in
    let first = and_parts _ _ last.0 in
    rw (← found.1) (leb-true low (digits_value 10 text) first.1, leb-true (digits_value 10 text) high last.1)

test_within : (b : Bool) (text : List ℕ) (n : ℕ) → cond b None (decimal_within 3 1 100 text) ≡ Some n → (1 ≤ n)
    × (n ≤ 100)
test_within true text n h = absurd (cc h)
test_within false text n h = number_within 3 1 100 text n h

units_within : (text : Option (List ℕ)) (n : ℕ) → option_and_then units_of text ≡ Some n → (1 ≤ n) × (n ≤ 100)
unfolding units_of
units_within None n h = absurd (cc h)
units_within (Some text) n h = test_within (bytes_eq (take 1 text) (codes "0")) text n h

gen_units : (units start steps : Option ℕ) → ((n : ℕ) → units ≡ Some n → (1 ≤ n) × (n ≤ 100))
    → HasOne (option_map Gen
    (option_and_then (λ u. option_and_then (λ s. option_map (gen_with u s) steps) start) units))
gen_units (Some u) (Some s) (Some n) within = within u refl
gen_units units start steps within = tt

gen_rows : (rows : Option (List Row)) → HasOne (option_map Gen (option_and_then gen_of rows))
unfolding gen_of
gen_rows rows = mapped Gen gen_of rows (λ rs.
    gen_units (option_and_then units_of (option_value (codes "units") rs))
    (option_and_then start_of (option_value (codes "start") rs)) (steps_in rs)
    (units_within (option_value (codes "units") rs)))

-- jobs of another verb
other_one : {A : Type 0} (app : App) (job_in : List Row → Option A) (of : A → Job) (words : List (List ℕ))
    → ((a : A) → HasOne (Some (of a)))
    → HasOne (asked app job_in of words)
other_one {A = A} app job_in of words one = by (option_and_then job_in (rows_in app words))
  where
    by : (job : Option A) → HasOne (option_map of job)
    by None = tt
    by (Some a) = one a

-- a verb, and the job of its arguments
abbrev Verb : Type 0
Verb = List ℕ × Option Job

-- the job of the first of these that is the verb
abbrev first_of : List ℕ → List Verb → Option Job
first_of verb [] = None
first_of verb (one ∷ more) = cond (bytes_eq verb one.0) one.1 (first_of verb more)

abbrev AreOne : List Verb → Type 0
AreOne [] = Unit {0}
AreOne (one ∷ more) = HasOne one.1 × AreOne more

first_one : (verb : List ℕ) (verbs : List Verb) → AreOne verbs → HasOne (first_of verb verbs)
first_one verb [] all = tt
first_one verb (one ∷ more) all = by_test (bytes_eq verb one.0) (first_one verb more all.1)
  where
    by_test : (b : Bool) → HasOne (first_of verb more) → HasOne (cond b one.1 (first_of verb more))
    by_test true rest = all.0
    by_test false rest = rest

abbrev verbs_of : List (List ℕ) → List Verb
verbs_of words =
    (codes "build", asked build_app build_of Build words) ∷ (codes "asm", asked asm_app asm_of Asm words)
    ∷ (codes "lib", asked lib_app lib_of Library words) ∷ (codes "flat", asked flat_app flat_of Flat words)
    ∷ (codes "gen", asked gen_app gen_of Gen words) ∷ (codes "dis", asked dis_app link_of Dis words)
    ∷ (codes "stack", asked stack_app link_of Stack words) ∷ (codes "party", asked party_app party_of Party words) ∷ []

verbs_one : (words : List (List ℕ)) → AreOne (verbs_of words)
verbs_one words =
    let dis = other_one dis_app link_of Dis words (λ job. tt) in
    let stack = other_one stack_app link_of Stack words (λ job. tt) in
    let lib = other_one lib_app lib_of Library words (λ job. tt) in
    let flat = other_one flat_app flat_of Flat words (λ job. tt) in
    let build = other_one build_app build_of Build words (λ job. tt) in
    let asm = asm_rows (rows_in asm_app words) in
    let gen = gen_rows (rows_in gen_app words) in
    (build, (asm, (lib, (flat, (gen, (dis, (stack, (party_rows (rows_in party_app words), tt))))))))

words_one : (words : List (List ℕ)) → HasOne (job_of words)
unfolding job_by
words_one [] = tt
words_one (verb ∷ words) = first_one verb (verbs_of (verb ∷ words)) (verbs_one (verb ∷ words))

pub asked_fit : (words : List (List ℕ)) (job : Job) → job_of words ≡ Some job → IsFit job
asked_fit words job asked = subst HasOne asked (words_one words)
