use Rattle.m51_chain.proofs.Completed.{one_answer}
use Rattle.m51_build_proof.proofs.answers.no_words_have_two_answers.Goals as goal

pub returns : goal.returns
returns c = one_answer
