use Rattle.m51_chain.proofs.Common.{refl, script_outcome}
use Rattle.m51_chain.specs.FlatRuns.{IsScripted, Ran, ScriptRefused}
use Rattle.m51_script.specs.Reading.{script_refusal}
use Rattle.m51_chain.proofs.Following.{refused_comes}
use Rattle.m51_chain.proofs.flat.run_image.Goals as goal

pub returns-in_ok-run-in-Ok : goal.returns-in_ok-run-in-Ok
returns-in_ok-run-in-Ok c = Ran _ c.in-Ok.ensures c.in_ok-run-in-Ok.ensures

pub returns-in_ok-refuse_read_script-in-Err : goal.returns-in_ok-refuse_read_script-in-Err
returns-in_ok-refuse_read_script-in-Err c =
    refused_comes (IsScripted c.args.job.now c.args.image _) (script_refusal c.in-Err.error) script_outcome _ _
    c.in_ok-refuse_read_script-in-Err.ensures c.in-Err.ensures (λ why is. ScriptRefused why is refl)
