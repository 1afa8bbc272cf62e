use Rattle.m51_resolve.proofs.Common.{ap, ◌∙◌, arith, Definition}
use Rattle.m51_resolve.proofs.Tables.{begin, public_entry, reads, stands}
use Rattle.m51_resolve.proofs.joined.Joined.public_of.Goals as goal

pub index-start-requires : goal.index-start-requires
index-start-requires c =
    let e = public_entry c.self.invariant c.self.view_is c.args.module c.args.external c.requires in
    omega (arith, e.entry.inside, c.from.ensures)

pub overflow_add-start : goal.overflow_add-start
overflow_add-start c =
    let e = public_entry c.self.invariant c.self.view_is c.args.module c.args.external c.requires in
    omega (
      arith,
      begin e.entry c.index-start.ensures c.from.ensures,
      e.entry.within,
      e.entry.number,
      c.from-2.ensures,
    )

pub index-found-requires : goal.index-found-requires
index-found-requires c =
    let e = public_entry c.self.invariant c.self.view_is c.args.module c.args.external c.requires in
    omega (arith, stands e.entry c.index-start.ensures c.from.ensures c.from-2.ensures, e.entry.within)

pub overflow_cast-result : goal.overflow_cast-result
overflow_cast-result c =
    let e = public_entry c.self.invariant c.self.view_is c.args.module c.args.external c.requires in
    let is = reads e.entry c.index-start.ensures c.from.ensures c.from-2.ensures c.index-found.ensures
    in
    omega (arith, e.number, ap (λ (x : Definition). x.number) is)

pub returns : goal.returns
returns c =
    let e = public_entry c.self.invariant c.self.view_is c.args.module c.args.external c.requires in
    let is = reads e.entry c.index-start.ensures c.from.ensures c.from-2.ensures c.index-found.ensures
    in
    (ap (λ (x : Definition). (x.number, x.index)) is ∙ e.value)
