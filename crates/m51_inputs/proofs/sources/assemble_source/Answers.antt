use Rattle.std.proofs.Common.{◌≡◌, ◌∙◌, length, ap, arith}
use Rattle.m51_jobs.specs.Endings.{is_source}
use Rattle.m51_inputs.specs.Files.{sources_of}
use Rattle.m51_inputs.specs.Sorting.{files_in}
use Rattle.m51_inputs.proofs.AnswerLists.{only_source, some_source}
use Rattle.m51_inputs.proofs.FileLists.{count-files_that}
use Rattle.m51_inputs.proofs.sources.assemble_source.Goals as goal

pub remove-source-requires : goal.remove-source-requires
remove-source-requires c =
    let one : length (sources_of c.args.files.now c.args.contents.now) ≡ 1 =
    count-files_that is_source c.args.files.now c.args.contents.now c.requires.count ∙ c.requires.one in
    let some = some_source _ _ c.in_ok-sources.ensures.sources one in
    omega (arith, some, ap length c.into_vec-sources.ensures, c.into_vec-sources.result.ok.0)

pub returns-clause-source : goal.returns-clause-source
returns-clause-source c =
    let one : length (sources_of c.args.files.now c.args.contents.now) ≡ 1 =
    count-files_that is_source c.args.files.now c.args.contents.now c.requires.count ∙ c.requires.one in
    only_source _ _ _ (ap files_in c.into_vec-sources.ensures ∙ c.in_ok-sources.ensures.sources) one
    c.remove-source.ensures.value
