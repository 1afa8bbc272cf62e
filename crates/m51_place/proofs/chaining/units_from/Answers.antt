use Rattle.m51_place.proofs
use proofs.Common.{IsFront, IsNext, [], append-nil, arith, leads, length, rank_edge, refl, tally_le, ℕ, ◌-◌, ◌<◌}
use proofs.Chained.{front_more, rank}
use proofs.chaining.units_from.Goals as goal

pub loop-next-init : goal.loop-next-init
loop-next-init c = rw c.in_ok-units.ensures.items
    (record { front = []; are = refl; goes = λ more h. h; below = c.requires.root })

pub loop-next-preserved : goal.loop-next-preserved
loop-next-preserved c = rw c.in_ok-push.ensures.items
    (front_more _ _ _ _ _ _ c.requires.sound c.loop-next.invariant c.in-Some.ensures)

pub loop-next-smaller : goal.loop-next-smaller
loop-next-smaller c =
    let l = c.args.layout.now in
    let n : ℕ = length l.units in
    let next : IsNext l l.edges c.args.best.now c.loop-next.unit c.in-Some.next = c.in-Some.ensures.1 in
    let more =
    rank_edge n l.edges (record { within = c.requires.sound.edges }) c.requires.sound.no_cycle c.loop-next.unit
    c.in-Some.next next.edge in
    let most = tally_le (λ w. leads l.edges w c.in-Some.next) n in
    let less : n - rank l.edges n c.in-Some.next < n - rank l.edges n c.loop-next.unit = omega (arith, more, most) in
    less

pub returns : goal.returns
returns c =
    let l = c.args.layout.now in
    let inv : IsFront l c.args.best.now c.args.root c.loop-next.unit c.loop-next.units.items = c.loop-next.invariant in
    record {
      more = inv.front;
      are = inv.are;
      goes = rw append-nil at (inv.goes [] c.in_default.ensures);
    }
