use Rattle.std.proofs.Common.{sym, arith}
use Rattle.std.proofs.lemmas.List.{take_all}
use Rattle.m51_cells.specs.declared.limits.TheConstants.{MOST_PIECE_BYTES}
use Rattle.m51_emit.proofs.pieces.front.Goals as goal

pub returns-then-bytes-lt-MOST_PIECE_BYTES : goal.returns-then-bytes-lt-MOST_PIECE_BYTES
returns-then-bytes-lt-MOST_PIECE_BYTES c = sym (take_all MOST_PIECE_BYTES c.args.bytes.now (omega arith))
