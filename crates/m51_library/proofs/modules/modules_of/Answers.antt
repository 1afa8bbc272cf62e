use Rattle.std.proofs.Common.{arith}
use Rattle.std.proofs.lemmas.Result.{IfOk-weaker}
use Rattle.m51_records.proofs.FieldLaws.{IsBytes, bytes_fit}
use Rattle.m51_library.proofs.LibraryLaws.{first_takes, whole}
use Rattle.m51_library.proofs.modules.modules_of.Goals as goal

pub returns-clause-found : goal.returns-clause-found
returns-clause-found c =
    let fits : IsBytes c.args.bytes.now = bytes_fit c.args.bytes.now (λ i. omega (arith, c.type_inv.bytes i)) in
    IfOk-weaker c.at_end.result _ _ (λ kept same.
    whole c.args.bytes.now c.in_ok-count.rest.now c.in_ok-modules.rest.now c.in_ok-count.count
    c.in_ok-modules.modules.items kept.items
    (first_takes _ c.args.bytes.now c.in_ok-count.count c.in_ok-count.rest.now fits c.in_ok-count.ensures.value)
    c.in_ok-modules.ensures.spelled c.in_ok-modules.ensures.so_many same) c.at_end.ensures.nothing
