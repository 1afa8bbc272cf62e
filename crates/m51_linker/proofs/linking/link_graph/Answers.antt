use Rattle.m51_linker.proofs.Reset.{reset}
use Rattle.m51_linker.proofs.linking.link_graph.Goals as goal

pub linked-requires-clause-reset : goal.linked-requires-clause-reset
linked-requires-clause-reset c =
    reset c.args.joined.now c.args.controls.now c.args.graph.now c.in_ok-placing.placing c.requires
    c.in_ok-placing.ensures.value c.modules.ensures.valid c.modules.ensures.resolved c.lines.ensures.kept
    c.parts.ensures.kept
