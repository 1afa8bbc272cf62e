use Rattle.m51_resolve.proofs.Common.{ap, ◌∙◌, arith, SegmentPart}
use Rattle.m51_resolve.proofs.Tables.{begin, part_entry, reads, stands}
use Rattle.m51_resolve.proofs.joined.Joined.part.Goals as goal

pub index-start-requires : goal.index-start-requires
index-start-requires c =
    let e = part_entry c.self.invariant c.self.view_is c.args.module c.args.segment c.requires in
    omega (arith, e.entry.inside, c.from.ensures)

pub overflow_add-start : goal.overflow_add-start
overflow_add-start c =
    let e = part_entry c.self.invariant c.self.view_is c.args.module c.args.segment c.requires in
    omega (
      arith,
      begin e.entry c.index-start.ensures c.from.ensures,
      e.entry.within,
      e.entry.number,
      c.from-2.ensures,
    )

pub index-part-requires : goal.index-part-requires
index-part-requires c =
    let e = part_entry c.self.invariant c.self.view_is c.args.module c.args.segment c.requires in
    omega (arith, stands e.entry c.index-start.ensures c.from.ensures c.from-2.ensures, e.entry.within)

pub overflow_cast-part : goal.overflow_cast-part
overflow_cast-part c =
    let e = part_entry c.self.invariant c.self.view_is c.args.module c.args.segment c.requires in
    let is = reads e.entry c.index-start.ensures c.from.ensures c.from-2.ensures c.index-part.ensures
    in
    omega (arith, e.number, ap (λ (x : SegmentPart). x.number) is)

pub overflow_cast-result : goal.overflow_cast-result
overflow_cast-result c =
    let e = part_entry c.self.invariant c.self.view_is c.args.module c.args.segment c.requires in
    let is = reads e.entry c.index-start.ensures c.from.ensures c.from-2.ensures c.index-part.ensures
    in
    omega (arith, e.offset, ap (λ (x : SegmentPart). x.offset) is)

pub returns : goal.returns
returns c =
    let e = part_entry c.self.invariant c.self.view_is c.args.module c.args.segment c.requires in
    let is = reads e.entry c.index-start.ensures c.from.ensures c.from-2.ensures c.index-part.ensures
    in
    rw c.new.ensures (ap (λ (x : SegmentPart). (x.number, x.offset)) is ∙ e.value)
