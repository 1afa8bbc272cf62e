use Rattle.m51_library.proofs.Answering.{made_found, made_memory}
use Rattle.m51_library.proofs.reading.library_of.Goals as goal

pub returns-in-Ok-clause-found : goal.returns-in-Ok-clause-found
returns-in-Ok-clause-found c =
    made_found c.build.result c.args.bytes.now c.in-Ok.modules.items c.in-Ok.ensures.found c.build.ensures

pub returns-in-Ok-clause-memory : goal.returns-in-Ok-clause-memory
returns-in-Ok-clause-memory c = made_memory c.build.result c.in-Ok.modules.items c.build.ensures
