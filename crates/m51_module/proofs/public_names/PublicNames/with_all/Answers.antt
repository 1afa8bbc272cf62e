use Rattle.std.proofs.Common.{◌<◌, length, arith}
use Rattle.m51_module.proofs.NotedNames.{has_all, has_more}
use Rattle.m51_module.proofs.public_names.PublicNames.with_all.Goals as goal

pub loop-member-preserved : goal.loop-member-preserved
loop-member-preserved c =
    let below : c.loop-member.member-index < length c.args.members.now = omega arith in
    has_more c.args.self c.loop-member.names c.with-names.result c.args.members.now c.loop-member.member-index
    c.member-item.result c.loop-member.invariant below c.member-item.is c.with-names.ensures

pub returns : goal.returns
returns c =
    has_all c.args.self c.loop-member.names c.args.members.now c.loop-member.member-index c.loop-member.invariant
    c.loop-member-test.false
