-- The bytes of the units of a sound layout lie in program memory.
use Rattle.std.proofs.Common.{◌≡◌, ℕ, ◌+◌, ◌-◌, ◌<◌, ◌≤◌, true, List, length, get_or, map, Some, refl, sym, subst}
use Rattle.std.proofs.Common.{arith}
use Rattle.std.specs.Prelude.{nat_lt, slice_get}
use Rattle.std.specs.List.{All, filter}
use Rattle.std.proofs.lemmas.Bool.Decides.{nat_tests}
use Rattle.std.proofs.lemmas.List.Elements.{All-filter, All-map, filter_passes}
use Rattle.std.proofs.lemmas.List.{get_or_default}
use Rattle.std.proofs.lemmas.Option.{slice_get_read}
use Rattle.m51_cells.specs.Cells.{cells_in}
use Rattle.m51_cells.specs.Extent.{Covers, extent_of}
use Rattle.m51_cells.specs.declared.cell.Cell.{Cell}
use Rattle.m51_module.specs.Cells.{code_cell}
use Rattle.m51_module.specs.Plan.{IsCodeSegment, IsPlaced}
use Rattle.m51_module.specs.Sound.{IsSound}
use Rattle.m51_module.specs.declared.parts.LayoutParts.{LayoutParts}
use Rattle.m51_module.specs.declared.placed.Placed.{Placed}
use Rattle.m51_disasm.specs.declared.part.CodeRange.{CodeRange}
use Rattle.m51_disasm.specs.Parts.{IsInside, has_bytes, placed_range, unit_ranges}

-- if it has a byte, it ends in program memory
abbrev EndsInside : CodeRange → Type 0
EndsInside part = 0 < part.size → part.base + part.size ≤ 65536

-- so does a segment of program memory
segment_ends : (l : LayoutParts) → IsSound l → (s : ℕ) (p : Placed) → IsPlaced l s p → IsCodeSegment p
    → EndsInside (placed_range (Some p))
segment_ends l sound s p placed code some =
    let inside = subst
    (λ k. (c : Cell) → Covers (extent_of k p.base p.size) c → c.at < cells_in (extent_of k p.base p.size).space)
    code.kind (sound.fit s p placed).inside in
    let last : p.base + p.size - 1 < 65536 =
    inside (code_cell (p.base + p.size - 1))
    (record { space = refl; from = omega (arith, some); below = omega (arith, some) }) in
    omega (arith, last)

unit_ends : (l : LayoutParts) → IsSound l → (u s : ℕ) → slice_get l.units u ≡ Some s
    → EndsInside (placed_range (slice_get l.placed s))
unit_ends l sound u s is =
    let found = sound.is_code u s is in
    subst (λ o. EndsInside (placed_range o)) (sym found.1) (segment_ends l sound s found.0 found.1 found.2)

pub all_inside : (l : LayoutParts) → IsSound l → All IsInside (unit_ranges l)
all_inside l sound =
    let all : List CodeRange = map (λ index. placed_range (slice_get l.placed index)) l.units in
    let ends : All EndsInside all =
    All-map EndsInside (λ index. placed_range (slice_get l.placed index)) l.units
    (λ k d below. unit_ends l sound k (get_or l.units k d)
    (slice_get_read l.units (length l.units) k (get_or l.units k d) refl below
    (get_or_default l.units k d (get_or l.units k d) below))) in
    let kept : All EndsInside (filter has_bytes all) = All-filter has_bytes EndsInside all ends in
    let pass = filter_passes has_bytes all in
    λ k d below.
    let passes : nat_lt 0 (get_or (filter has_bytes all) k d).size ≡ true = pass k d below in
    let some : 0 < (get_or (filter has_bytes all) k d).size = grind (arith, nat_tests) in
    record { some = some; ends = kept k d below some }
