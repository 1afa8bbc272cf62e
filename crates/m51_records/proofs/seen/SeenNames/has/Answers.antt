use Rattle.m51_records.proofs.EntryLaws.{among_is}
use Rattle.m51_records.proofs.seen.SeenNames.has.Goals as goal

pub returns : goal.returns
returns c = cc (
  c.contains.ensures,
  among_is c.bytes.result.now c.self.inside.names.keys,
  c.bytes.ensures.bytes,
  c.self.view_is,
)
