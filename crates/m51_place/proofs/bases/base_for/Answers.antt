use Rattle.m51_place.proofs
use proofs.Common.{EndsWithin, IsPermutation, List, Placed, ap, conflicting, extents_in, least_base, ℕ, ◌∙◌}
use Rattle.std.proofs.lemmas.List.Sorted.{All-permutation}
use proofs.Conflicting.{in_the_way_is}
use proofs.Free.{found_below, least_is}
use proofs.bases.base_for.Goals as goal

pub first_clear-requires-clause-ends : goal.first_clear-requires-clause-ends
first_clear-requires-clause-ends c =
    rw c.deref.ensures.value (All-permutation EndsWithin c.in_ok-extents.extents.items c.arrange.new.extents.items
    c.arrange.ensures c.in_ok-extents.ensures.ends)

pub as_base-requires : goal.as_base-requires
as_base-requires c =
    let j = c.args.ranked.now.segment in
    found_below c.deref.result.now j.kind j.reloc c.from-size.result c.first_clear.result c.requires.ranked.kind
    c.first_clear.ensures

pub returns : goal.returns
returns c =
    let g = c.args.graph.now in
    let j = c.args.ranked.now.segment in
    let number = c.args.ranked.now.number in
    let space = c.space_of-space.result in
    let size = c.from-size.result in
    let others : List Placed = conflicting g number c.args.earlier.now in
    let list = c.in_ok-extents.ensures.list ∙ in_the_way_is g number space c.args.earlier.now in
    let moved : IsPermutation (extents_in space others) c.deref.result.now =
    rw c.deref.ensures.value (rw list at c.arrange.ensures) in
    let below =
    found_below c.deref.result.now j.kind j.reloc size c.first_clear.result c.requires.ranked.kind
    c.first_clear.ensures in
    let least =
    least_is j.kind j.reloc size space
    (λ base. c.space_of-space.ensures base size)
    others c.deref.result.now moved c.first_clear.result c.first_clear.ensures below in
    c.as_base.ensures ∙ least ∙ ap (λ (n : ℕ). least_base others j.kind j.reloc n) c.from-size.ensures
