use Rattle.std.proofs.Common.{◌≡◌, ◌<◌, None, length, get_or, take, ◌∙◌, rules, arith}
use Rattle.std.proofs.lemmas.List.{take_all}
use Rattle.m51_module.specs.Library.{add_refusal}
use Rattle.m51_module.proofs.Held.{library_more, each_more}
use Rattle.m51_module.proofs.NotedNames.{names_next}
use Rattle.m51_module.proofs.library.build.Goals as goal

pub loop-index-preserved : goal.loop-index-preserved
loop-index-preserved c =
    let lt : c.loop-index.index < length c.args.modules.items = search rules in
    let free : add_refusal (take c.loop-index.index c.args.modules.items)
    (get_or c.args.modules.items c.loop-index.index c.index.result.now) ≡ None = search rules in
    record {
      library = library_more _ _ c.index.result.now lt free c.loop-index.invariant.library;
      names = names_next c.args.modules.items c.loop-index.index c.index-in-None.result.now c.with-names.result lt
          (search rules) (c.with-names.ensures _ c.loop-index.invariant.names);
      rest = each_more _ _ c.index.result.now lt free ∙ c.loop-index.invariant.rest;
    }

pub invariant_of-result : goal.invariant_of-result
invariant_of-result c =
    record {
      library = rw (take_all c.loop-index.index c.args.modules.items (omega arith)) at c.loop-index.invariant.library;
      named = c.unknown.ensures _;
    }
