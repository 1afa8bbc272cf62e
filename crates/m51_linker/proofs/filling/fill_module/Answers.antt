use Rattle.std.proofs.Common.{◌≡◌, ℕ, ◌+◌, ◌≤◌, List, [], ◌∷◌, length, sym, ap, subst, arith}
use Rattle.std.specs.List.{Contains}
use Rattle.m51_module.specs.declared.content.Piece.{Piece}
use Rattle.m51_linker.specs.Image.{placed_piece}
use Rattle.m51_linker.specs.Memory.{AreWritten, held_at}
use Rattle.m51_linker.specs.Targets.{address_of}
use Rattle.m51_linker.proofs.Rooms.{piece_room}
use Rattle.m51_linker.proofs.Steps.{piece_written}
use Rattle.m51_linker.proofs.filling.fill_module.Goals as goal

pub put-requires : goal.put-requires
put-requires c =
    let p = c.piece-item.result in
    let room : address_of c.args.joined.now c.args.placing.now c.args.module p.segment p.offset + length
    p.bytes ≤ 65536 =
    piece_room c.args.joined.now c.args.placing.now c.requires.placed c.args.module c.args.parts.now c.requires.there p
    (subst (λ (ps : List Piece). Contains ps p) c.pieces-piece-items.ensures.list
    (c.loop-piece.piece-index, c.loop-piece-test.true, sym c.piece-item.is)) in
    let count : length c.as_slice.result.now ≡ length p.bytes = ap (λ (xs : List ℕ). length xs) c.as_slice.ensures in
    omega (arith, room, count, c.address_of-at.ensures, c.loop-piece.auto.memory, c.requires.whole)

pub loop-piece-preserved : goal.loop-piece-preserved
loop-piece-preserved c =
    let p = c.piece-item.result in
    let mid = held_at c.loop-piece.memory in
    let new = held_at c.put.new.memory in
    piece_written (placed_piece c.args.joined.now c.args.placing.now c.args.module) c.pieces-piece-items.result.now
    c.loop-piece.piece-index p
    (held_at c.args.memory.now) mid new c.loop-piece-test.true c.piece-item.is c.loop-piece.invariant
    (subst (λ (at : ℕ). AreWritten (record { at = at; bytes = p.bytes } ∷ []) mid new) c.address_of-at.ensures
    (subst (λ (bytes : List ℕ). AreWritten (record { at = c.address_of-at.result; bytes = bytes } ∷ []) mid new)
    c.as_slice.ensures c.put.ensures))
