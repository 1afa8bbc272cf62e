-- The units of a program: its joined segments of program memory, in joined order. Their titles, which are roots, and to
-- which modules refer.
use Rattle.std.specs.Prelude.{ℕ, ◌+◌, Bool, ◌&&◌, nat_eq, if◌then◌else◌, List, [], ◌∷◌, map}
use Rattle.std.specs.Prelude.{filter, position, Option, option_and_then}
use Rattle.std.specs.List.{list_any}
use Rattle.std.specs.Str.{bytes_eq}
use Rattle.m51_cells.specs.declared.kind.Base.{Base}
use Rattle.m51_cells.specs.Kinds.{is_absolute, is_code}
use Rattle.m51_module.specs.declared.parts.ModuleParts.{ModuleParts}
use Rattle.m51_module.specs.Roots.{vectors}
use Rattle.m51_resolve.specs.declared.referent.Referent.{Referent}
use Rattle.m51_resolve.specs.declared.segment.JoinedSegment.{JoinedSegment}
use Rattle.m51_resolve.specs.Joining.{segments_of}
use Rattle.m51_resolve.specs.Referents.{referent}

-- the joined numbers of the units among segments, the first of which has that number
abbrev pub units_from : ℕ → List JoinedSegment → List ℕ
units_from number [] = []
units_from number (j ∷ more) =
    if is_code j.kind then number ∷ units_from (number + 1) more else units_from (number + 1) more

-- the joined number of each unit
abbrev pub units_of : List JoinedSegment → List ℕ
units_of segments = units_from 0 segments

-- the segments that are units
abbrev pub code_segments : List JoinedSegment → List JoinedSegment
code_segments segments = filter (λ j. is_code j.kind) segments

-- the title of each unit
abbrev pub unit_titles : List JoinedSegment → List (List ℕ)
unit_titles segments = map (λ j. j.title) (code_segments segments)

-- the first unit of that title
abbrev pub named : List (List ℕ) → List ℕ → Option ℕ
named titles name = position (λ title. bytes_eq title name) titles

-- the unit is a root: it is absolute, and begins where the reset or an interrupt does
abbrev pub is_root : JoinedSegment → Bool
is_root j = is_absolute j.reloc && list_any (nat_eq j.base) vectors

-- the roots among units, the first of which has that number: each with its vector
abbrev pub roots_from : ℕ → List JoinedSegment → List (ℕ × ℕ)
roots_from unit [] = []
roots_from unit (j ∷ more) =
    if is_root j then (j.base, unit) ∷ roots_from (unit + 1) more else roots_from (unit + 1) more

-- the vector and the unit of each root
abbrev pub roots_of : List JoinedSegment → List (ℕ × ℕ)
roots_of segments = roots_from 0 (code_segments segments)

-- the unit in which a part lies to which is referred, if that is of program memory
abbrev pub unit_at : List ℕ → Referent → Option ℕ
unit_at units r = option_and_then (λ (part : ℕ × ℕ). position (nat_eq part.0) units) r.part

-- the unit to which a base of the module of that number refers, directly or by an external
abbrev pub unit_of : List ModuleParts → ℕ → Base → Option ℕ
unit_of modules m base = unit_at (units_of (segments_of modules)) (referent modules m base)
