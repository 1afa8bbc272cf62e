use Rattle.m51_chain.proofs.Common.{drop, ◌≡◌}
use Rattle.std.proofs.Common.{slice_get}
use Rattle.std.specs.List.{filter}
use Rattle.m51_jobs.specs.Endings.{is_include}
use Rattle.m51_chain.proofs.faulting.include_at.Given as goal

abbrev pub invariant-loop-file : goal.invariant-loop-file
invariant-loop-file l = slice_get (filter is_include (drop l.file-index l.files)) l.left
    ≡ slice_get (filter is_include l.files) l.number
