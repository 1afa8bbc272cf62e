use Rattle.m51_inputs.proofs.ToldInputs.{told_inputs}
use Rattle.m51_inputs.proofs.reading.read_inputs.Goals as goal

pub returns : goal.returns
returns c =
    told_inputs _ _ _ _ c.in_ok-sorted.sorted c.in_ok-answers.answers _
    c.in_ok-sorted.ensures c.in_ok-answers.ensures.answers c.in_ok-answers.ensures.words c.inputs_with.ensures
