use Rattle.m51_relations.proofs.BitLaws.{bits_put}
use Rattle.m51_relations.proofs.bit_row.put_bit.Goals as goal

pub returns : goal.returns
returns c = bits_put c.args.words.now c.args.number c.requires
