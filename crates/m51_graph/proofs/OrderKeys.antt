-- Which names are allowed in an order of which class.
use Rattle.m51_graph.proofs.Common.{◌≡◌, ℕ, Bool, true, false, cond, ◌&&◌, ◌||◌, List, [], ◌∷◌, drop, refl, arith}
use Rattle.m51_graph.proofs.Common.{Option, Some, None, nat_eq, list_any, option_map_or, bytes_eq, Control, overlaid_by}
use Rattle.m51_graph.proofs.Common.{named, JoinedSegment}
use Rattle.std.specs.Prelude.{is_none, option_map}
use Rattle.m51_control.specs.Classes.{class_of, same_class}
use Rattle.m51_control.specs.declared.control.Class.{Class}
use Rattle.m51_graph.specs.Lines.{may_stand, stands}
use Rattle.m51_graph.specs.Locals.{own_units}
use Rattle.m51_graph.specs.Ordering.{adds_order, class_number, order_has, orders_have, same_key}

-- two classes are the same exactly if their numbers are
same_number : (one two : Class) → nat_eq (class_number two) (class_number one) ≡ same_class one two
same_number one two = grind arith

-- a segment adds the class and the name with which it is allowed in an order
adds_is : (own : Option ℕ) (j : JoinedSegment) (class : Class) (name : List ℕ)
    → adds_order own j class name
    ≡ (bytes_eq j.title name && (option_map_or (same_class class) (class_of j.kind j.reloc) false && is_none own))
adds_is own j class name = by own (class_of j.kind j.reloc) (bytes_eq j.title name) refl
  where
    by : (own : Option ℕ) (found : Option Class) (named : Bool) → bytes_eq j.title name ≡ named
        → option_map_or (λ key. same_key key (class_number class, name))
        (cond (is_none own) (option_map (λ c. (class_number c, j.title)) found) None) false
        ≡ (named && (option_map_or (same_class class) found false && is_none own))
    by own None named is = grind arith
    by own (Some c) named is = grind (arith, is, same_number class c)

have_is : (titles : List (List ℕ)) (controls : List (ℕ × Control)) (segments : List JoinedSegment) (class : Class)
    (name : List ℕ)
    → orders_have (own_units titles controls segments) segments class name
    ≡ list_any (may_stand titles controls class name) segments
have_is titles controls [] class name = refl
have_is titles controls (j ∷ more) class name =
    rw (adds_is (overlaid_by titles controls j) j class name, have_is titles controls more class name)

pub stands_is : (titles : List (List ℕ)) (controls : List (ℕ × Control)) (segments : List JoinedSegment)
    → orders_have (own_units titles controls segments) segments ≡ stands titles segments controls
stands_is titles controls segments i = λ class name. have_is titles controls segments class name i

-- the set has what the segments before the next one add
pub record AreOrders (own : List (Option ℕ)) (segments : List JoinedSegment) (i : ℕ)
    (keys : List (ℕ × List ℕ)) : Type 0 where
  pub each : (class : Class) (name : List ℕ)
      → (order_has keys class name || orders_have (drop i own) (drop i segments) class name)
      ≡ orders_have own segments class name

pub or_cond : (a b : Bool) → cond a true b ≡ (a || b)
or_cond a b = grind arith
