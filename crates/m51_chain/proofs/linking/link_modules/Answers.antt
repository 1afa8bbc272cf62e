use Rattle.m51_chain.proofs.Common.{IsProgramOutcome, Unlinked, link_outcome, refl}
use Rattle.m51_chain.specs.ProgramFiles.{Nothing}
use Rattle.m51_linker.specs.Link.{program_of}
use Rattle.m51_resolve.specs.Rules.{but_memory}
use Rattle.m51_chain.proofs.Following.{refused_comes}
use Rattle.m51_chain.proofs.linking.link_modules.Goals as goal

pub returns-in_ok-refuse_link-in-Err-clause-answer : goal.returns-in_ok-refuse_link-in-Err-clause-answer
returns-in_ok-refuse_link-in-Err-clause-answer c =
    let program = program_of c.args.modules.items c.args.libraries.now c.args.controls.now in
    refused_comes (IsProgramOutcome program Nothing) (but_memory c.in-Err.refusal) link_outcome _ program
    c.in_ok-refuse_link-in-Err.ensures c.in-Err.ensures.answer (λ why is. Unlinked why is refl)
