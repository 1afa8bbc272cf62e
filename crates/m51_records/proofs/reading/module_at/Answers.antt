use Rattle.std.proofs.Common.{arith}
use Rattle.m51_records.proofs.FieldLaws.{bytes_fit}
use Rattle.m51_records.proofs.ModuleLaws.{module_takes}
use Rattle.m51_records.proofs.reading.module_at.Goals as goal

pub make-requires : goal.make-requires
make-requires c =
    (module_takes c.args.total c.args.number c.args.bytes.now (c.in_ok-parts.parts, c.in_ok-parts.rest.now)
    (bytes_fit c.args.bytes.now (λ i. omega (arith, c.type_inv.bytes i))) c.in_ok-parts.ensures.value).valid

pub returns-clause-spelled : goal.returns-clause-spelled
returns-clause-spelled c =
    let r = module_takes c.args.total c.args.number c.args.bytes.now (c.in_ok-parts.parts, c.in_ok-parts.rest.now)
    (bytes_fit c.args.bytes.now (λ i. omega (arith, c.type_inv.bytes i))) c.in_ok-parts.ensures.value in
    rw c.make.ensures (r.valid, r.bytes_are)
