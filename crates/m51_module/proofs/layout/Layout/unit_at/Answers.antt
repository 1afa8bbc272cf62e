use Rattle.std.proofs.Common.{◌<◌, length, None, arith, rules}
use Rattle.std.proofs.lemmas.List.{get_or_default}
use Rattle.m51_module.specs.Plan.{IsUnitAt}
use Rattle.m51_module.proofs.Units.{unit_below}
use Rattle.m51_module.proofs.layout.Layout.unit_at.Goals as goal

pub returns-clause-only : goal.returns-clause-only
returns-clause-only c = λ unit h.
    let at : IsUnitAt c.self.inside.parts c.args.address unit = rw c.self.view_is h in
    let inside : c.args.address < 65536 = search rules in
    let below : c.args.address < length c.self.inside.units_at.items =
    omega (arith, inside, c.self.invariant.units_at.len) in
    cc (
      c.index.ensures,
      c.from.ensures,
      get_or_default c.self.inside.units_at.items c.args.address None c.index.result.now below,
      c.self.invariant.units_at.only c.args.address unit inside (unit_below c.self.inside.parts c.args.address unit at)
          at,
    )
