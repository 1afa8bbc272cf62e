-- Of the code: which names are allowed in an order of which class, as a set of numbers of classes with names.
use Rattle.std.specs.Prelude.{◌≡◌, ℕ, Bool, false, ◌||◌, ◌&&◌, nat_eq, if◌then◌else◌, is_none, List, [], ◌∷◌, Option}
use Rattle.std.specs.Prelude.{None, option_map}
use Rattle.std.specs.List.{list_any}
use Rattle.std.specs.Option.{option_map_or}
use Rattle.std.specs.Str.{bytes_eq}
use Rattle.m51_control.specs.Classes.{class_of}
use Rattle.m51_control.specs.declared.control.Class.{Class}
use Rattle.m51_control.specs.declared.control.Class.TheVariants.{Bitaddressable, Bits, Direct, Idata, Xdata, Code}
use Rattle.m51_resolve.specs.declared.segment.JoinedSegment.{JoinedSegment}

-- a number for each class
abbrev pub class_number : Class → ℕ
class_number Bitaddressable = 0
class_number Bits = 1
class_number Direct = 2
class_number Idata = 3
class_number Xdata = 4
class_number Code = 5

-- two pairs of a number and a name are the same
abbrev pub same_key : ℕ × List ℕ → ℕ × List ℕ → Bool
same_key one two = nat_eq one.0 two.0 && bytes_eq one.1 two.1

-- the set has the name with the number of the class
abbrev pub order_has : List (ℕ × List ℕ) → Class → List ℕ → Bool
order_has keys class name = list_any (same_key (class_number class, name)) keys

-- what a segment with this own unit, if it is overlaid, adds to the set
abbrev pub order_key : Option ℕ → JoinedSegment → Option (ℕ × List ℕ)
order_key own j =
    if is_none own then option_map (λ class. (class_number class, j.title)) (class_of j.kind j.reloc) else None

-- it adds that class and name
abbrev pub adds_order : Option ℕ → JoinedSegment → Class → List ℕ → Bool
adds_order own j class name = option_map_or (λ key. same_key key (class_number class, name)) (order_key own j) false

-- one of the segments adds that class and name, whose own units those are
abbrev pub orders_have : List (Option ℕ) → List JoinedSegment → Class → List ℕ → Bool
orders_have own [] class name = false
orders_have [] (j ∷ more) class name = false
orders_have (unit ∷ own) (j ∷ more) class name = adds_order unit j class name || orders_have own more class name
