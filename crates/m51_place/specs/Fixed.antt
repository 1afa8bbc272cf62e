-- The extents whose bases are fixed: register banks in use, reserves and absolute segments; and the first two that
-- share a cell.
use Rattle.std.specs.Prelude.{ℕ, ◌+◌, ◌-◌, ◌/◌, ◌%◌, Bool, nat_eq, if◌then◌else◌, List, [], ◌∷◌, ◌++◌, position}
use Rattle.std.specs.Prelude.{slice_get, codes, Option, Some, None, option_map}
use Rattle.std.specs.List.{filter_map, list_any}
use Rattle.std.specs.Option.{option_or}
use Rattle.m51_cells.specs.declared.cell.Space.{Space}
use Rattle.m51_cells.specs.declared.cell.Space.TheVariants.{Ram, Xram, Code as CodeSpace}
use Rattle.m51_cells.specs.declared.kind.Kind.{Kind}
use Rattle.m51_cells.specs.declared.kind.Kind.TheVariants.{Direct, Xdata}
use Rattle.m51_cells.specs.declared.kind.Reloc.TheVariants.{Abs}
use Rattle.m51_control.specs.declared.control.Control.{Control}
use Rattle.m51_control.specs.declared.control.Control.TheVariants.{Reserve}
use Rattle.m51_module.specs.declared.linked.Refusal.{Refusal}
use Rattle.m51_module.specs.declared.linked.Refusal.TheVariants.{L9}
use Rattle.m51_module.specs.declared.parts.ModuleParts.{ModuleParts}
use Rattle.m51_module.specs.declared.placed.Mark.TheVariants.{Bank, Reserve as ReserveMark, Absolute}
use Rattle.m51_module.specs.declared.placed.Placed.{Placed}
use Rattle.m51_module.specs.Cells.{extent_at}
use Rattle.m51_resolve.specs.declared.segment.JoinedSegment.{JoinedSegment}
use Rattle.m51_cells.specs.Kinds.{is_absolute}
use Rattle.m51_place.specs.declared.numbered.Numbered.{Numbered}
use Rattle.m51_place.specs.Bases.{share}

-- an extent that is no segment
abbrev pub without_number : Placed → Numbered
without_number p = record { placed = p; number = None }

-- register bank of that title, which begins at that byte
abbrev pub bank : List ℕ → ℕ → Numbered
bank title base =
    without_number (record { title = title; kind = Direct; reloc = Abs; mark = Bank; base = base; size = 8 })

-- a module uses the bank whose bit has that weight
abbrev pub uses : List ModuleParts → ℕ → Bool
uses modules weight = list_any (λ (m : ModuleParts). nat_eq (m.banks / weight % 2) 1) modules

abbrev pub bank_if : Bool → List ℕ → ℕ → List Numbered
bank_if used title base = if used then bank title base ∷ [] else []

-- the banks in use, ascending; bank 0 always is
abbrev pub banks_of : List ModuleParts → List Numbered
banks_of modules =
    bank (codes "BANK0") 0 ∷ []
    ++ bank_if (uses modules 2) (codes "BANK1") 8
    ++ bank_if (uses modules 4) (codes "BANK2") 16
    ++ bank_if (uses modules 8) (codes "BANK3") 24

-- the bytes from the first to the last, as an extent of that kind
abbrev pub reserve_as : Kind → ℕ → ℕ → Numbered
reserve_as kind low high = without_number (record {
  title = codes "RESERVE";
  kind = kind;
  reloc = Abs;
  mark = ReserveMark;
  base = low;
  size = high - low + 1;
})

-- the same, of internal RAM or external data memory
abbrev pub reserve_in : Space → ℕ → ℕ → Option Numbered
reserve_in Ram low high = Some (reserve_as Direct low high)
reserve_in Xram low high = Some (reserve_as Xdata low high)
reserve_in CodeSpace low high = None

-- what a control line keeps free
abbrev pub reserve_of : Control → Option Numbered
reserve_of (Reserve space low high) = reserve_in space low high
reserve_of other = None

abbrev pub reserves_of : List (ℕ × Control) → List Numbered
reserves_of controls = filter_map (λ (line : ℕ × Control). reserve_of line.1) controls

-- an absolute segment at its own base
abbrev pub absolute : ℕ → JoinedSegment → Numbered
absolute number j = record {
  placed = record { title = j.title; kind = j.kind; reloc = j.reloc; mark = Absolute; base = j.base; size = j.size };
  number = Some number;
}

-- the absolute ones of the segments, of which the first has that number
abbrev pub absolutes_from : ℕ → List JoinedSegment → List Numbered
absolutes_from number [] = []
absolutes_from number (j ∷ more) =
    if is_absolute j.reloc then absolute number j ∷ absolutes_from (number + 1) more
    else absolutes_from (number + 1) more

-- The fixed extents: banks, then reserves in the order of their lines, then absolute segments in joined order.
abbrev pub fixed_of : List ModuleParts → List (ℕ × Control) → List JoinedSegment → List Numbered
fixed_of modules controls segments = banks_of modules ++ reserves_of controls ++ absolutes_from 0 segments

-- the index of the first earlier extent that shares a cell with the next one
abbrev pub first_met : List Numbered → Numbered → Option ℕ
first_met earlier e = position (λ (q : Numbered). share (extent_at q.placed) (extent_at e.placed)) earlier

abbrev pub shared_at : List Numbered → Numbered → Option ℕ → Option Refusal
shared_at earlier e None = None
shared_at earlier e (Some index) =
    option_map (λ (q : Numbered). L9 q.placed.title e.placed.title) (slice_get earlier index)

-- L9: the first extent that meets an earlier one, and the first that it meets
abbrev pub shared_after : List Numbered → List Numbered → Option Refusal
shared_after earlier [] = None
shared_after earlier (e ∷ more) =
    option_or (shared_at earlier e (first_met earlier e)) (shared_after (earlier ++ e ∷ []) more)

abbrev pub shared_extents : List Numbered → Option Refusal
shared_extents fixed = shared_after [] fixed
