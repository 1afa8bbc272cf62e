use Rattle.std.proofs.Common.{◌≡◌}
use Rattle.m51_generator.specs.Draws.{Drawn, drawn}
use Rattle.m51_generator.proofs.drawing.draw_units.Given as goal

abbrev pub invariant-loop-before : goal.invariant-loop-before
invariant-loop-before l = let now : Drawn = record { units = l.units.items; seed = l.seed } in now
    ≡ drawn l.before l.start
