use Rattle.m51_disasm_proof.proofs.Reassembled.{faultless}
use Rattle.m51_disasm_proof.proofs.laws.no_line_has_fault.Goals as goal

pub returns : goal.returns
returns c = λ l image text sound sizes bytes is a f. faultless l image text sound bytes is a f sizes
