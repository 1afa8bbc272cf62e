use Rattle.std.proofs.Common.{◌≡◌, ◌≤◌, length, arith, rules}
use Rattle.m51_module.proofs.KeptTables.{units_more, unit_end}
use Rattle.m51_module.proofs.tables.units_at.Goals as goal

pub enter-requires : goal.enter-requires
enter-requires c =
    let low : c.unit_of-placed.result.now.base ≤ 65536 = search rules in
    omega (
      arith,
      c.from.ensures,
      c.from-in-loop-unit.ensures,
      c.loop-unit.invariant.len,
      unit_end c.args.parts.now c.loop-unit.unit c.unit_of-placed.result.now c.requires c.unit_of-placed.ensures.unit
          c.unit_of-placed.ensures.code low,
    )

pub loop-unit-preserved : goal.loop-unit-preserved
loop-unit-preserved c =
    units_more c.args.parts.now c.loop-unit.unit c.unit_of-placed.result.now c.loop-unit.units_at.items
    c.enter.new.units_at.items c.requires
    c.loop-unit.invariant c.unit_of-placed.ensures.unit c.unit_of-placed.ensures.code (search rules)

pub returns : goal.returns
returns c =
    let done : c.loop-unit.unit ≡ length c.args.parts.now.units =
    omega (arith, c.loop-unit-test.false, c.loop-unit.auto.unit-end, c.len-unit-end.ensures) in
    rw done at c.loop-unit.invariant
