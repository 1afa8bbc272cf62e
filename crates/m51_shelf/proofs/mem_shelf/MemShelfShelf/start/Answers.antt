use Rattle.std.proofs.Common.{◌≡◌, ◌⊎◌, None, refl, string_bytes}
use Rattle.std.specs.Prelude.{Contains}
use Rattle.m51_cells.specs.Outside.{one_more}
use Rattle.m51_shelf.specs.declared.mem_shelf.ShelfCall.TheVariants.{Start}
use Rattle.m51_shelf.specs.Shelf.{file_of}
use Rattle.m51_shelf.proofs.mem_shelf.MemShelfShelf.start.Goals as goal

pub returns-in-Err-clause-failed : goal.returns-in-Err-clause-failed
returns-in-Err-clause-failed c =
    let fact : Contains c.self.inside.fails.items (Start, one_more c.self.inside.starts)
    ⊎ (file_of c.self.inside.files.items (string_bytes c.args.name) ≡ None) =
    rw (c.saturating_add-number.ensures, c.deref.ensures.value, c.deref-2.ensures.value, c.as_bytes.ensures.value) at
    (c.in-Err.ensures.0 refl) in
    (λ h. rw (← c.self.view_is) fact, λ h. refl)
