use Rattle.std.proofs.Common.{refl, sym, ◌∙◌}
use Rattle.m51_linker.proofs.Finished.{runs_are, runs_inside}
use Rattle.m51_linker.proofs.linking.linked.Goals as goal

pub returns-clause-linked : goal.returns-clause-linked
returns-clause-linked c = record {
  layout = refl;
  image = c.requires.image;
  written = runs_are c.args.joined.now c.args.placing c.args.content.now c.in_ok-written.written c.requires.content
      c.in_ok-written.ensures;
  roots = c.in_ok-roots.ensures;
}

pub returns-clause-ready : goal.returns-clause-ready
returns-clause-ready c = record {
  reset = c.requires.reset;
  roots = c.in_ok-roots.ensures.len ∙ sym c.requires.units;
  runs = runs_inside c.args.content.now c.in_ok-written.written c.in_ok-written.ensures;
  ascending = c.in_ok-written.ensures.ascending;
}
