-- Of the code: the byte of the roots above a unit, and which owners of segments are related by the tables.
use Rattle.std.specs.Prelude.{◌≡◌, ℕ, ◌+◌, ◌*◌, ◌^◌, ◌<◌, take, Bool, ◌||◌, ◌&&◌}
use Rattle.std.specs.Prelude.{if◌then◌else◌, List, [], ◌∷◌, slice_get, Some}
use Rattle.std.specs.List.{list_any, range_with_len}
use Rattle.m51_module.specs.Roots.{vectors}
use Rattle.m51_relations.specs.declared.owner_pairs.Owned.{Owned}
use Rattle.m51_relations.specs.OwnerPairs.{related_by}
use Rattle.m51_relations.specs.Rows.{pairs}
use Rattle.m51_graph.specs.declared.parts.GraphParts.{GraphParts}
use Rattle.m51_graph.specs.declared.tables.Tables.{Tables}
use Rattle.m51_graph.specs.Graph.{IsOwn}
use Rattle.m51_graph.specs.Graphs.{lies_under}

-- a number whose lowest bit is set if the first of these passes the test, the next bit if the next does, and so on
abbrev pub bits_of : (ℕ → Bool) → List ℕ → ℕ
bits_of test [] = 0
bits_of test (x ∷ more) = (if test x then 1 else 0) + 2 * bits_of test more

-- the bits of the first of these, and the weight of the next
pub record AddsBits (test : ℕ → Bool) (xs : List ℕ) (count bits weight : ℕ) : Type 0 where
  pub weight_is : weight ≡ 2 ^ count
  pub bits_are : bits ≡ bits_of test (take count xs)
  pub room : bits < weight

-- the byte of the roots above a unit
abbrev pub root_byte : (ℕ → ℕ → Bool) → List (ℕ × ℕ) → ℕ → ℕ
root_byte reach roots unit = bits_of (λ vector. lies_under reach roots vector unit) vectors

abbrev pub are_related : Tables → ℕ → ℕ → Bool
are_related t one two = related_by (pairs t.reach) t.under.items one two

-- the own unit and the mark of a segment
pub record IsOwned (g : GraphParts) (segment : ℕ) (s : Owned) : Type 0 where
  pub own : IsOwn g s.own segment
  pub argument : slice_get g.arguments segment ≡ Some s.argument

-- an owner of the segment is related to the unit: its own one, or for an argument segment one with an edge to that
abbrev pub owner_related : Tables → Owned → ℕ → Bool
owner_related t s unit =
    are_related t s.own unit
    || (s.argument
    && list_any (λ caller. pairs t.edges caller s.own && are_related t caller unit) (range_with_len 0 t.edges.count))

-- an owner of the one is related to an owner of the other
abbrev pub owners_related : Tables → Owned → Owned → Bool
owners_related t one two =
    owner_related t two one.own
    || (one.argument
    && list_any (λ caller. pairs t.edges caller one.own && owner_related t two caller) (range_with_len 0 t.edges.count))
