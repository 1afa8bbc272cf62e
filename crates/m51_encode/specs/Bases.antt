-- How the base of a value is related to the segment of the statement.
use Rattle.std.specs.Prelude.{◌==◌, Bool, false, not, ◌&&◌, ◌||◌}
use Rattle.m51_cells.specs.declared.kind.Base.{Base}
use Rattle.m51_cells.specs.declared.kind.Base.TheVariants.{None, Segment, External}
use Rattle.m51_expr.specs.Meanings.{Meanings, is_absolute_base, is_unplaced}

-- two segments that are one
abbrev pub same_segment : Base → Base → Bool
same_segment (Segment s) (Segment t) = s == t
same_segment a b = false

-- the segment of the statement
abbrev pub is_current : Meanings → Base → Bool
is_current names base = same_segment base names.here.base

-- the statement is in an absolute segment
abbrev pub stands_absolute : Meanings → Bool
stands_absolute names = is_absolute_base names names.here.base

-- the base in the object
abbrev pub object_base : Meanings → Base → Base
object_base names None = None
object_base names (Segment s) = Segment (names.number s)
object_base names (External n) = External n

-- a segment that the object has; it has no absolute one without a byte
abbrev pub is_numbered : Meanings → Base → Bool
is_numbered names (Segment s) = not (names.number s == 0)
is_numbered names base = false

-- The linker adds the base: it is relocatable or external, or another absolute segment that has a number. Any other
-- value counts as a number.
abbrev pub is_linked : Meanings → Base → Bool
is_linked names base = is_unplaced names base || (is_numbered names base && not (is_current names base))
