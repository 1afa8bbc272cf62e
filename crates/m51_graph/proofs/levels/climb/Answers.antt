use Rattle.m51_graph.proofs.Common.{◌≡◌, ◌≤◌, ◌*◌, length, refl, sum, sym, subst, arith, LeadWithin}
use Rattle.std.proofs.lemmas.Nat.{mul-le}
use Rattle.m51_graph.proofs.Climbing.{walked_first, levels_most}
use Rattle.m51_graph.proofs.levels.climb.Goals as goal

pub climb-init : goal.climb-init
climb-init c = record { len = refl; walked = walked_first c.args.edges.now c.args.levels.now c.requires.zero }

pub climb-smaller : goal.climb-smaller
climb-smaller c =
    let levels = c.raise.new.levels in
    let len : length levels ≡ length c.args.levels.now = omega (arith, c.raise.ensures.len, c.climb.invariant.len) in
    let within : LeadWithin (length levels) c.args.edges.now =
    subst (λ n. LeadWithin n c.args.edges.now) (sym len) c.requires.within in
    let most : sum levels ≤ length levels * length levels =
    levels_most c.args.edges.now levels within c.requires.no_cycle c.raise.ensures.walked in
    let few : length levels ≤ 1000 = omega (arith, len, c.requires.units) in
    let bound : sum levels ≤ 1000000 = omega (arith, most, mul-le (length levels) (length levels) 1000 1000 few few) in
    omega (arith, bound, c.raise.ensures.more c.climb-test.true)
