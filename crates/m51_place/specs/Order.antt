-- The order in which relocatable segments are placed.
use Rattle.std.specs.Prelude.{ℕ, ◌+◌, Bool, true, false, ◌&&◌, ◌||◌, nat_eq, nat_lt, if◌then◌else◌, List, [], ◌∷◌}
use Rattle.std.specs.Prelude.{codes, flat_map, position, slice_get, Option, Some, None}
use Rattle.std.specs.List.{position_or_len}
use Rattle.std.specs.Option.{option_map_or}
use Rattle.std.specs.Str.{bytes_eq}
use Rattle.m51_cells.specs.declared.kind.Kind.{Kind}
use Rattle.m51_cells.specs.declared.kind.Kind.TheVariants.{Idata}
use Rattle.m51_cells.specs.Kinds.{is_absolute}
use Rattle.m51_control.specs.Classes.{class_of, same_class}
use Rattle.m51_control.specs.declared.control.Class.{Class}
use Rattle.m51_control.specs.declared.control.Class.TheVariants.{Bitaddressable as BitaddressableClass}
use Rattle.m51_control.specs.declared.control.Class.TheVariants.{Bits as BitsClass, Direct as DirectClass}
use Rattle.m51_control.specs.declared.control.Class.TheVariants.{Idata as IdataClass, Xdata as XdataClass}
use Rattle.m51_control.specs.declared.control.Class.TheVariants.{Code as CodeClass}
use Rattle.m51_control.specs.declared.control.Control.{Control}
use Rattle.m51_control.specs.declared.control.Control.TheVariants.{Order}
use Rattle.m51_module.specs.Roots.{vectors}
use Rattle.m51_resolve.specs.declared.segment.JoinedSegment.{JoinedSegment}
use Rattle.m51_graph.specs.declared.parts.GraphParts.{GraphParts}
use Rattle.m51_graph.specs.Graphs.{lies_under}
use Rattle.m51_graph.specs.Leading.{leads}
use Rattle.m51_graph.specs.Levels.{level_of}
use Rattle.m51_place.specs.declared.ranked.Group.{Group}
use Rattle.m51_place.specs.declared.ranked.Group.TheVariants.{Named, Plain, Overlaid, Stack}
use Rattle.m51_place.specs.declared.ranked.Rank.{Rank}
use Rattle.m51_place.specs.declared.ranked.Ranked.{Ranked}

-- the classes in their order; what has none comes last
abbrev pub class_number : Option Class → ℕ
class_number (Some BitaddressableClass) = 0
class_number (Some BitsClass) = 1
class_number (Some DirectClass) = 2
class_number (Some IdataClass) = 3
class_number (Some XdataClass) = 4
class_number (Some CodeClass) = 5
class_number None = 6

-- the names that a line orders of this class
abbrev pub names_ordered_by : Option Class → Control → List (List ℕ)
names_ordered_by (Some class) (Order other names) = if same_class class other then names else []
names_ordered_by class other = []

-- the names that lines order of this class, in the order of lines and names
abbrev pub ordered_names : List (ℕ × Control) → Option Class → List (List ℕ)
ordered_names controls class = flat_map (λ (line : ℕ × Control). names_ordered_by class line.1) controls

-- the kind is IDATA
abbrev pub is_idata : Kind → Bool
is_idata Idata = true
is_idata _ = false

-- the segment is the stack: of IDATA, and named ?STACK
abbrev pub is_stack : JoinedSegment → Bool
is_stack j = is_idata j.kind && bytes_eq j.title (codes "?STACK")

-- the group of a plain segment: by its first naming, if a line orders it
abbrev pub group_unless_overlaid : JoinedSegment → Option ℕ → Group
group_unless_overlaid j (Some naming) = Named naming
group_unless_overlaid j None = if is_stack j then Stack else Plain

-- the first naming of the segment among those of its class, if a line orders it
abbrev pub naming_of : List (ℕ × Control) → JoinedSegment → Option ℕ
naming_of controls j =
    position (λ name. bytes_eq j.title name) (ordered_names controls (class_of j.kind j.reloc))

-- the index among the vectors of the first root above the unit; 7 where there is none
abbrev pub root_number : GraphParts → ℕ → ℕ
root_number g unit = position_or_len (λ vector. lies_under (leads g.edges) g.roots vector unit) vectors

-- the group of a segment with this own unit, if it is overlaid: then by the root above the unit and the unit's level
abbrev pub group_of : GraphParts → List (ℕ × Control) → JoinedSegment → Option ℕ → Group
group_of g controls j (Some unit) = Overlaid (root_number g unit) (level_of g.edges unit)
group_of g controls j None = group_unless_overlaid j (naming_of controls j)

-- the rank of a segment: by class, by group, and by joined number
abbrev pub rank_of : GraphParts → List (ℕ × Control) → ℕ → JoinedSegment → Option ℕ → Rank
rank_of g controls number j own =
    record { class = class_of j.kind j.reloc; group = group_of g controls j own; number = number }

-- the own unit of a joined segment, if it is overlaid
abbrev pub own_at : GraphParts → ℕ → Option ℕ
own_at g number = option_map_or (λ (own : Option ℕ). own) (slice_get g.own number) None

abbrev pub ranked_of : GraphParts → List (ℕ × Control) → ℕ → JoinedSegment → Ranked
ranked_of g controls number j = record {
  number = number;
  segment = j;
  own = own_at g number;
  rank = rank_of g controls number j (own_at g number);
}

-- In a class the plain segments that a line orders come first, then the other plain ones, then the overlaid ones, and
-- then a segment ?STACK of IDATA that no line orders.
abbrev pub group_number : Group → ℕ
group_number (Named naming) = 0
group_number Plain = 1
group_number (Overlaid root level) = 2
group_number Stack = 3

-- in its group a named segment comes by its naming, and an overlaid one by the root above its unit
abbrev pub first_sort_key : Group → ℕ
first_sort_key (Named naming) = naming
first_sort_key Plain = 0
first_sort_key (Overlaid root level) = root
first_sort_key Stack = 0

-- and then by the level of the unit
abbrev pub second_sort_key : Group → ℕ
second_sort_key (Named naming) = 0
second_sort_key Plain = 0
second_sort_key (Overlaid root level) = level
second_sort_key Stack = 0

-- the first number is less, or it is the same and what follows decides
abbrev pub before_by : ℕ → ℕ → Bool → Bool
before_by one two next = nat_lt one two || (nat_eq one two && next)

-- one group comes before another, or they are alike and what follows decides
abbrev pub group_before : Group → Group → Bool → Bool
group_before a b next =
    before_by (group_number a) (group_number b)
    (before_by (first_sort_key a) (first_sort_key b) (before_by (second_sort_key a) (second_sort_key b) next))

-- one rank comes before another
abbrev pub comes_before : Rank → Rank → Bool
comes_before a b =
    before_by (class_number a.class) (class_number b.class) (group_before a.group b.group (nat_lt a.number b.number))

-- the relocatable ones of the segments, of which the first has that number
abbrev pub ranked_from : GraphParts → List (ℕ × Control) → ℕ → List JoinedSegment → List Ranked
ranked_from g controls number [] = []
ranked_from g controls number (j ∷ more) =
    if is_absolute j.reloc then ranked_from g controls (number + 1) more
    else ranked_of g controls number j ∷ ranked_from g controls (number + 1) more

-- with one more in the order, put before the first that it comes before
abbrev pub put : Ranked → List Ranked → List Ranked
put t [] = t ∷ []
put t (u ∷ more) = if comes_before t.rank u.rank then t ∷ (u ∷ more) else u ∷ put t more

-- with more, put one after another
abbrev pub put_all : List Ranked → List Ranked → List Ranked
put_all order [] = order
put_all order (t ∷ more) = put_all (put t order) more

-- The relocatable segments in the order of their ranks.
abbrev pub order_of : GraphParts → List (ℕ × Control) → List JoinedSegment → List Ranked
order_of g controls segments = put_all [] (ranked_from g controls 0 segments)
