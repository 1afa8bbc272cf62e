use Rattle.std.proofs.Common.{◌≡◌, drop}
use Rattle.m51_inputs.specs.Steps.{files_before, linked_kinds}
use Rattle.m51_inputs.proofs.objects.linked_files.Given as goal

abbrev pub invariant-loop-word : goal.invariant-loop-word
invariant-loop-word l =
    files_before l.linked (linked_kinds l.word (drop l.word l.endings) (drop l.word l.contents) l.sources.items)
    ≡ linked_kinds 0 l.endings l.contents l.fn.sources.items
