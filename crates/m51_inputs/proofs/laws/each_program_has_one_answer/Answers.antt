use Rattle.m51_inputs.proofs.OneEach.{one_answer}
use Rattle.m51_inputs.proofs.laws.each_program_has_one_answer.Goals as goal

pub returns : goal.returns
returns c = one_answer c.each_text_has_one_answer.ensures
