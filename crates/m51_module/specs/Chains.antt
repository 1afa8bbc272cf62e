-- Heaviest chains: for each root of a program the walk from it that weighs the most. In a layout the weight of a unit
-- is its bytes of overlaid DATA.
use Rattle.std.specs.Prelude.{◌≡◌, ◌⊎◌, ◌==◌, ℕ, ◌+◌, ◌<◌, Bool, true, false, ◌&&◌, if◌then◌else◌, List, [], ◌∷◌, sum}
use Rattle.std.specs.Prelude.{map}
use Rattle.m51_cells.specs.declared.kind.Kind.{Kind}
use Rattle.m51_cells.specs.declared.kind.Kind.TheVariants.{Direct}
use Rattle.m51_cells.specs.declared.kind.Reloc.{Reloc}
use Rattle.m51_cells.specs.declared.kind.Reloc.TheVariants.{Unit as UnitType}
use Rattle.m51_module.specs.declared.linked.Chain.{Chain}
use Rattle.m51_module.specs.declared.parts.LayoutParts.{LayoutParts}
use Rattle.m51_module.specs.declared.placed.Mark.{Mark}
use Rattle.m51_module.specs.declared.placed.Mark.TheVariants.{Overlaid}
use Rattle.m51_module.specs.declared.placed.Placed.{Placed}
use Rattle.m51_module.specs.Program.{ProgramGraph}
use Rattle.m51_module.specs.Walks.{Edges, IsWalk}
use Rattle.m51_module.specs.Plan.{owners_of, layout_graph}
use Rattle.m51_module.specs.Roots.{vectors}

-- the sum of the weights of these units
abbrev pub sum_along : (ℕ → ℕ) → List ℕ → ℕ
sum_along weight units = sum (map weight units)

-- the first list comes first by its numbers, a prefix before what it begins
abbrev pub ComesFirst : List ℕ → List ℕ → Type 0
ComesFirst [] ys = Unit {0}
ComesFirst (x ∷ xs) [] = ⊥
ComesFirst (x ∷ xs) (y ∷ ys) = (x < y) ⊎ ((x ≡ y) × ComesFirst xs ys)

-- The chain is the walk from its root along these edges whose units weigh the most; of walks that weigh as much, the
-- one that comes first.
pub record IsHeaviestWalk (edges : Edges) (weight : ℕ → ℕ) (chain : Chain) : Type 0 where
  pub more : List ℕ
  pub units : chain.units ≡ chain.root ∷ more
  pub walk : IsWalk edges chain.root more
  pub bytes : chain.bytes ≡ sum_along weight (chain.root ∷ more)
  pub most : (other : List ℕ) → IsWalk edges chain.root other
      → (sum_along weight (chain.root ∷ other) < chain.bytes)
      ⊎ ((sum_along weight (chain.root ∷ other) ≡ chain.bytes) × ComesFirst more other)

-- the program has no root at the vector
abbrev pub LacksRoot : ProgramGraph → ℕ → Type 0
LacksRoot g vector = (unit : ℕ) → g.IsRoot vector unit → ⊥

-- the heaviest walks from the roots at these vectors, one for each root
abbrev pub ChainsFrom : ProgramGraph → (ℕ → ℕ) → List ℕ → List Chain → Type 0
ChainsFrom g weight [] [] = Unit {0}
ChainsFrom g weight [] (chain ∷ chains) = ⊥
ChainsFrom g weight (vector ∷ more) [] = LacksRoot g vector × ChainsFrom g weight more []
ChainsFrom g weight (vector ∷ more) (chain ∷ chains) =
    (LacksRoot g vector × ChainsFrom g weight more (chain ∷ chains))
    ⊎ (g.IsRoot vector chain.root × IsHeaviestWalk g.edges weight chain × ChainsFrom g weight more chains)

-- the heaviest chains of a program whose units have these weights, by the addresses of their roots
abbrev pub AreHeaviestOf : ProgramGraph → (ℕ → ℕ) → List Chain → Type 0
AreHeaviestOf g weight chains = ChainsFrom g weight vectors chains

-- it is overlaid DATA of type UNIT
abbrev pub is_overlaid_data : Kind → Reloc → Mark → Bool
is_overlaid_data Direct UnitType Overlaid = true
is_overlaid_data _ _ _ = false

-- the unit is the first of these
abbrev pub is_first : ℕ → List ℕ → Bool
is_first unit [] = false
is_first unit (own ∷ others) = unit == own

-- the bytes of overlaid DATA among these extents, the first of which has that number, whose own unit is this one
abbrev pub data_of : LayoutParts → ℕ → ℕ → List Placed → ℕ
data_of l unit number [] = 0
data_of l unit number (p ∷ more) =
    (if is_overlaid_data p.kind p.reloc p.mark && is_first unit (owners_of l.owners number) then p.size else 0)
    + data_of l unit (number + 1) more

-- the bytes of a unit, and of the units of a walk
abbrev pub weight_of : LayoutParts → ℕ → ℕ
weight_of l unit = data_of l unit 0 l.placed

abbrev pub weight_along : LayoutParts → List ℕ → ℕ
weight_along l units = sum_along (weight_of l) units

-- the chain is a heaviest walk of the layout
abbrev pub IsHeaviest : LayoutParts → Chain → Type 0
IsHeaviest l chain = IsHeaviestWalk l.edges (weight_of l) chain

-- there is no root at the vector
abbrev pub HasNoRoot : LayoutParts → ℕ → Type 0
HasNoRoot l vector = LacksRoot (layout_graph l) vector

-- the chains of the layout's roots at these vectors
abbrev pub ChainsAt : LayoutParts → List ℕ → List Chain → Type 0
ChainsAt l at chains = ChainsFrom (layout_graph l) (weight_of l) at chains

-- the heaviest chains of a layout, by the addresses of their roots
abbrev pub AreHeaviest : LayoutParts → List Chain → Type 0
AreHeaviest l chains = AreHeaviestOf (layout_graph l) (weight_of l) chains
