-- The parts of a disassembly: the units of one byte or more, by ascending base.
use Rattle.std.specs.Prelude.{ℕ, zero, suc, ◌+◌, ◌<◌, ◌≤◌, Bool, ◌==◌, nat_lt, List, [], ◌++◌, map, slice_get}
use Rattle.std.specs.Prelude.{Option, Some, None}
use Rattle.std.specs.List.{filter}
use Rattle.m51_module.specs.declared.parts.LayoutParts.{LayoutParts}
use Rattle.m51_module.specs.declared.placed.Placed.{Placed}
use Rattle.m51_disasm.specs.declared.part.CodeRange.{CodeRange}

-- base and size of a placed extent
abbrev pub placed_range : Option Placed → CodeRange
placed_range None = record { base = 0; size = 0 }
placed_range (Some p) = record { base = p.base; size = p.size }

-- it has one byte or more
abbrev pub has_bytes : CodeRange → Bool
has_bytes part = nat_lt 0 part.size

-- the units of one byte or more, in the order of the layout
abbrev pub unit_ranges : LayoutParts → List CodeRange
unit_ranges l = filter has_bytes (map (λ index. placed_range (slice_get l.placed index)) l.units)

-- those that begin below an address, by ascending base
unfoldable pub parts_below : List CodeRange → ℕ → List CodeRange
parts_below units zero = []
parts_below units (suc address) = parts_below units address ++ filter (λ unit. unit.base == address) units

-- all of them, by ascending base
unfoldable pub code_ranges : LayoutParts → List CodeRange
code_ranges l = parts_below (unit_ranges l) 0x10000

-- it has bytes, and all of them lie in program memory
pub record IsInside (part : CodeRange) : Type 0 where
  pub some : 0 < part.size
  pub ends : part.base + part.size ≤ 65536
