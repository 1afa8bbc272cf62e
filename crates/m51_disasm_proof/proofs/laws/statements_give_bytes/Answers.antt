use Rattle.m51_disasm_proof.proofs.Reassembled.{statement_gives_bytes}
use Rattle.m51_disasm_proof.proofs.laws.statements_give_bytes.Goals as goal

pub returns : goal.returns
returns c = statement_gives_bytes
