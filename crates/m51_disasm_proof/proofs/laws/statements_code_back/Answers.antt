use Rattle.m51_disasm_proof.proofs.StatementsBack.{statement_gives}
use Rattle.m51_disasm_proof.proofs.laws.statements_code_back.Goals as goal

pub returns : goal.returns
returns c = statement_gives
