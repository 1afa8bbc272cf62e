use Rattle.std.proofs.Common.{◌≡◌, [], sym}
use Rattle.m51_inputs.proofs.AnswerLists.{all_faults, all_modules, faults_step, modules_step, none_left}
use Rattle.m51_inputs.proofs.sources.modules_of.Goals as goal

pub loop-answer-preserved : goal.loop-answer-preserved
loop-answer-preserved c = record {
  modules = modules_step c.loop-answer.modules.items c.put_answer.new.modules.items _ c.loop-answer.left.items
      c.pop_front.new.self.items c.in-Some.answer
      c.in-Some.ensures.items c.in_ok-put_answer.ensures.modules c.loop-answer.invariant.modules;
  faulty = faults_step c.loop-answer.faulty.items c.put_answer.new.faulty.items _ c.loop-answer.left.items
      c.pop_front.new.self.items c.in-Some.answer
      c.in-Some.ensures.items c.in_ok-put_answer.ensures.faulty c.loop-answer.invariant.faulty;
}

pub returns : goal.returns
returns c =
    let none : c.loop-answer.left.items ≡ [] = none_left _ _ c.in_default.ensures.items c.in_default.ensures.rest in
    rw (
      sym (all_faults _ _ _ none c.loop-answer.invariant.faulty),
      sym (all_modules _ _ _ none c.loop-answer.invariant.modules),
    ) c.unless_faults.ensures
