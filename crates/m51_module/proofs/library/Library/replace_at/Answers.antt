use Rattle.std.proofs.Common.{◌≡◌, None, Some, ◌∙◌, refl, rules, ap}
use Rattle.std.specs.Prelude.{remove, slice_set}
use Rattle.m51_module.specs.Library.{is_named, clash, value_unless}
use Rattle.m51_module.proofs.NotedNames.{names_others, names_put, set_again}
use Rattle.m51_module.proofs.Held.{index_within, put_there, replace_keeps}
use Rattle.m51_module.proofs.library.Library.replace_at.Goals as goal

pub clash_with_others-requires-clause-names : goal.clash_with_others-requires-clause-names
clash_with_others-requires-clause-names c =
    let ms = c.self.inside.members.items in
    rw c.deref-2.ensures.value
    (names_others ms _ c.args.index _ c.take-names.result c.without-others.result c.self.invariant.library
    (index_within (is_named c.args.incoming.name) ms c.args.index (search rules)) c.index.ensures
    c.deref.ensures.value c.take-names.ensures.taken c.without-others.ensures)

pub invariant_of-self : goal.invariant_of-self
invariant_of-self c =
    let ms = c.self.inside.members.items in
    let within = index_within (is_named c.args.incoming.name) ms c.args.index (search rules) in
    record {
      library = c.self.invariant.library;
      named = names_put ms ms c.args.index c.index-in-Some.result.now c.without-others.result c.with.result within
          (set_again ms c.args.index _ c.index-in-Some.ensures)
          (names_others ms _ c.args.index _ c.take-names.result c.without-others.result c.self.invariant.library within
          c.index.ensures c.deref.ensures.value c.take-names.ensures.taken c.without-others.ensures) c.with.ensures;
    }

pub invariant_of-self-in-None : goal.invariant_of-self-in-None
invariant_of-self-in-None c =
    let ms = c.self.inside.members.items in
    let within = index_within (is_named c.args.incoming.name) ms c.args.index (search rules) in
    record {
      library = replace_keeps ms c.args.index c.args.incoming c.self.invariant.library (search rules) (search rules);
      named = names_put ms _ c.args.index c.args.incoming c.without-others.result c.with-in-None.result within refl
          (names_others ms _ c.args.index _ c.take-names.result c.without-others.result c.self.invariant.library within
          c.index.ensures c.deref.ensures.value c.take-names.ensures.taken c.without-others.ensures)
          c.with-in-None.ensures;
    }

pub returns-in-Some-clause-answer : goal.returns-in-Some-clause-answer
returns-in-Some-clause-answer c =
    let ms = c.self.inside.members.items in
    let refused : clash (remove ms c.args.index) c.args.incoming ≡ Some c.in-Some.refusal = search rules in
    rw (← c.self.view_is)
    (put_there ms c.self.invariant.library c.args.incoming c.args.index (search rules)
    ∙ ap (λ o. value_unless o (slice_set ms c.args.index c.args.incoming)) refused)

pub returns-in-None-clause-answer : goal.returns-in-None-clause-answer
returns-in-None-clause-answer c =
    let ms = c.self.inside.members.items in
    let free : clash (remove ms c.args.index) c.args.incoming ≡ None = search rules in
    rw (← c.self.view_is)
    (put_there ms c.self.invariant.library c.args.incoming c.args.index (search rules)
    ∙ ap (λ o. value_unless o (slice_set ms c.args.index c.args.incoming)) free)
