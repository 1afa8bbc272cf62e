use Rattle.m51_emit.specs.Pieces.{piece_at}
use Rattle.m51_emit.proofs.LoopSteps.{numbered_more}
use Rattle.m51_emit.proofs.pieces.push_pieces.Goals as goal

pub loop-index-preserved : goal.loop-index-preserved
loop-index-preserved c =
    numbered_more (piece_at c.args.segment (c.args.from, c.args.bytes.now)) c.args.pieces.now.items _ _
    c.loop-index.index
    c.in_ok-piece_at.field-0 c.in_ok-push.ensures.items c.in_ok-piece_at.ensures c.loop-index.invariant
