use Rattle.std.proofs.Common.{◌≡◌, ◌⊎◌, ◌<◌, length, refl, rules}
use Rattle.std.specs.Prelude.{Contains}
use Rattle.m51_cells.specs.Outside.{one_more}
use Rattle.m51_shelf.specs.declared.mem_shelf.ShelfCall.TheVariants.{Keep}
use Rattle.m51_shelf.proofs.mem_shelf.MemShelfShelf.keep.Goals as goal

pub returns-in-Err-clause-failed : goal.returns-in-Err-clause-failed
returns-in-Err-clause-failed c =
    let buffers : c.len.result ≡ length c.self.inside.buffers.items = search rules in
    let fact : Contains c.self.inside.fails.items (Keep, one_more c.self.inside.keeps)
    ⊎ ((length c.self.inside.buffers.items ≡ 0) ⊎ (c.self.inside.room < length c.args.bytes.now)) =
    rw (c.saturating_add-number.ensures, c.deref.ensures.value, buffers) at (c.in-Err.ensures.0 refl) in
    (λ h. rw (← c.self.view_is) fact, λ h. refl)
