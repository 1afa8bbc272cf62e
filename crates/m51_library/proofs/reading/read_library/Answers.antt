use Rattle.m51_library.proofs.Answering.{again}
use Rattle.m51_library.proofs.reading.read_library.Goals as goal

pub returns-clause-only : goal.returns-clause-only
returns-clause-only c ms library valid is =
    again c.library_of.result c.args.bytes.now ms library valid is c.library_of.ensures.answer
