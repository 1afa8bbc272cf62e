use Rattle.std.proofs.Common.{◌≡◌, [], ◌∷◌, ◌++◌, length, ap, ◌∙◌, arith}
use Rattle.std.proofs.lemmas.Result.{err_from_is_err_and}
use Rattle.m51_frame.specs.Fields.{record_refusal}
use Rattle.m51_library.specs.Reading.{modules_at}
use Rattle.m51_library.proofs.Following.{one_more, one_refused, all_read, bytes_more, grown}
use Rattle.m51_library.proofs.modules.modules_at.Goals as goal

pub returns-in_err-member-clause-value : goal.returns-in_err-member-clause-value
returns-in_err-member-clause-value c =
    let p = err_from_is_err_and c.from_residual.result c.from_residual.ensures.1 in
    rw (p.1, p.2)
    (one_refused c.loop-index.modules.items c.args.count c.loop-index._index c.args.total c.loop-index.next
    c.loop-index.rest.now
    (modules_at c.args.count c.args.total c.args.number c.args.bytes.now)
    (record_refusal c.in_err-member.field-0.0) c.loop-index-test.true
    c.in_err-member.ensures.value c.loop-index.invariant.goes)

pub loop-index-preserved : goal.loop-index-preserved
loop-index-preserved c =
    let push : c.push.new.self.items ≡ c.loop-index.modules.items ++ c.in_ok-member.member ∷ [] =
    c.in_ok-push.ensures.items in
    record {
      goes = rw push
          (one_more c.loop-index.modules.items c.args.count c.loop-index._index c.args.total c.loop-index.next
          c.in_ok-member.following c.in_ok-member.member
          c.loop-index.rest.now c.in_ok-member.after.now
          (modules_at c.args.count c.args.total c.args.number c.args.bytes.now) c.loop-index-test.true
          c.in_ok-member.ensures.value c.in_ok-member.ensures.next c.loop-index.invariant.goes);
      spelled =
          rw push (bytes_more c.loop-index.modules.items c.in_ok-member.member c.args.bytes.now c.loop-index.rest.now
          c.in_ok-member.after.now
          c.loop-index.invariant.spelled c.in_ok-member.ensures.spelled.1);
      so_many =
          omega (
            arith,
            ap length push
                ∙ grown c.loop-index.modules.items c.in_ok-member.member,
            c.loop-index.invariant.so_many,
          );
      few = omega (arith, c.in_ok-member.ensures.few, c.loop-index.invariant.few);
    }

pub returns-clause-value : goal.returns-clause-value
returns-clause-value c =
    all_read c.loop-index.modules.items c.args.count c.loop-index._index c.args.total c.loop-index.next
    c.loop-index.rest.now _ (omega arith) c.loop-index.invariant.goes
