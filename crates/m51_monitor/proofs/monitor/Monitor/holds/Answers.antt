use Rattle.m51_monitor.proofs.Common.{◌≤◌, ◌<◌, ◌+◌, arith}
use Rattle.std.proofs.lemmas.Bool.{leb-true, leb-false}
use Rattle.m51_monitor.proofs.CurrentUnit.{all_held, one_past}
use Rattle.m51_monitor.proofs.Framing.{current_is}
use Rattle.m51_monitor.proofs.monitor.Monitor.holds.Goals as goal

pub returns-clause-inside : goal.returns-clause-inside
returns-clause-inside c = λ e n h.
    let a = c.self.inside.activity in
    let named = current_is c.self.inside.frames.items a.units in
    let at = rw (← c.self.view_is, named) at c.requires in
    let le : c.args.from + c.args.count ≤ c.self.inside.end =
    omega (arith, leb-true (c.from.result + c.from-2.result) c.self.inside.end e, c.from.ensures, c.from-2.ensures) in
    rw (← c.self.view_is, named) (all_held a.layout c.is_sound.ensures c.args.from _ c.self.inside.end at
    c.self.invariant.3.ends c.args.count le n h)

pub returns-clause-outside : goal.returns-clause-outside
returns-clause-outside c = λ e.
    let a = c.self.inside.activity in
    let named = current_is c.self.inside.frames.items a.units in
    let at = rw (← c.self.view_is, named) at c.requires in
    let past : c.self.inside.end < c.args.from + c.args.count =
    omega (arith, leb-false (c.from.result + c.from-2.result) c.self.inside.end e, c.from.ensures, c.from-2.ensures) in
    rw (← c.self.view_is, named) (one_past a.layout c.is_sound.ensures c.args.from _ c.self.inside.end at
    c.self.invariant.3.ends c.args.count past)
