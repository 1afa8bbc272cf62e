-- Calls from start to start: a list and rows of them, and walks over rows. Private contracts cite it.
use Rattle.std.specs.Prelude.{◌≡◌, ◌⊎◌, ℕ, ◌+◌, Bool, true, false, if◌then◌else◌, List, [], ◌∷◌, ◌++◌, length}
use Rattle.std.specs.Prelude.{slice_index_or, slice_set, Option, Some, None}
use Rattle.std.specs.List.{Contains, filter_map, sum_by}
use Rattle.std.specs.List.Sorted.{IsPermutation}
use Rattle.m51_module.specs.declared.parts.LayoutParts.{LayoutParts}
use Rattle.m51_module.specs.declared.start.Start.{Start}
use Rattle.m51_module.specs.declared.start.Start.TheVariants.{Reset, At}
use Rattle.m51_stackbound.specs.declared.calls.Call.{Call}
use Rattle.m51_stackbound.specs.declared.point.Point.{Point}
use Rattle.m51_stackbound.specs.Depths.{Calls}
use Rattle.m51_stackbound.specs.Points.{call_of}

-- the call that a point gives
abbrev pub call_from : Point → Option ℕ → Option Call
call_from p None = None
call_from p (Some to) = Some (record { from = p.start; height = p.height; to = to })

-- the calls that points give, in the order of the points
abbrev pub calls_of : LayoutParts → List ℕ → List Point → List Call
calls_of l image points = filter_map (λ p. call_from p (call_of l image p)) points

-- these calls, in whatever order
abbrev pub AreCallsOf : LayoutParts → List ℕ → List Point → List Call → Type 0
AreCallsOf l image points calls = IsPermutation (calls_of l image points) calls

-- the row of a start: whom it calls
abbrev pub callee_row : List (List ℕ) → ℕ → List ℕ
callee_row rows from = slice_index_or rows from []

-- rows with one call more; there is no row of the reset
abbrev pub with_call : List (List ℕ) → Start → ℕ → List (List ℕ)
with_call rows Reset to = rows
with_call rows (At from) to = slice_set rows from (callee_row rows from ++ to ∷ [])

-- one of the calls is from the first start to the second
pub record IsCalled (calls : List Call) (from to : ℕ) : Type 0 where
  pub call : Call
  pub listed : Contains calls call
  pub from_is : call.from ≡ At from
  pub to_is : call.to ≡ to

-- the rows of these calls
pub record AreRowsOf (calls : List Call) (rows : List (List ℕ)) : Type 0 where
  pub len : length rows ≡ 65536
  pub only : (from to : ℕ) → Contains (callee_row rows from) to → IsCalled calls from to
  pub all : (from to : ℕ) → IsCalled calls from to → Contains (callee_row rows from) to

-- the rows of a program
pub record AreCallRows (l : LayoutParts) (image : List ℕ) (rows : List (List ℕ)) : Type 0 where
  pub only : (from to : ℕ) → Contains (callee_row rows from) to → Calls l image (At from) to
  pub all : (from to : ℕ) → Calls l image (At from) to → Contains (callee_row rows from) to

-- the rows lead from one start to another
pub data Leads (rows : List (List ℕ)) (from : ℕ) : ℕ → Type 0 where
  Once : (to : ℕ) → Contains (callee_row rows from) to → Leads rows from to
  Over : (via to : ℕ) → Leads rows from via → Contains (callee_row rows via) to → Leads rows from to

-- the list, continued with those of these starts that it does not have
pub record GoesOn (old starts new : List ℕ) : Type 0 where
  pub more : List ℕ
  pub is : new ≡ old ++ more
  pub from : (a : ℕ) → Contains more a → Contains starts a
  pub all : (a : ℕ) → Contains starts a → Contains new a

-- the list has all that this start calls
abbrev pub HasCallees : List (List ℕ) → List ℕ → ℕ → Type 0
HasCallees rows starts from = (to : ℕ) → Contains (callee_row rows from) to → Contains starts to

-- the list, continued with starts to which the rows lead from this one, has all that this one and they call
pub record Walks (rows : List (List ℕ)) (from : ℕ) (old new : List ℕ) : Type 0 where
  pub more : List ℕ
  pub is : new ≡ old ++ more
  pub only : (a : ℕ) → Contains more a → Leads rows from a
  pub begun : HasCallees rows new from
  pub closed : (a : ℕ) → Contains new a → Contains old a ⊎ HasCallees rows new a

-- the list has all that its starts call
abbrev pub IsClosed : List (List ℕ) → List ℕ → Type 0
IsClosed rows starts = (a : ℕ) → Contains starts a → HasCallees rows starts a

-- what is found is closed again, and a start that is clear does not call itself
pub record Clears (rows : List (List ℕ)) (start : ℕ) (found : List ℕ) (is_clear : Bool) : Type 0 where
  pub closed : IsClosed rows found
  pub apart : is_clear ≡ true → Leads rows start start → ⊥

-- no start that is marked calls itself
pub record AreCleared (rows : List (List ℕ)) (cleared : List Bool) : Type 0 where
  pub len : length cleared ≡ 65536
  pub apart : (a : ℕ) → slice_index_or cleared a false ≡ true → Leads rows a a → ⊥

-- the marks, with the start if it is clear
abbrev pub with_clear : List Bool → ℕ → Bool → List Bool
with_clear cleared start true = slice_set cleared start true
with_clear cleared start false = cleared

abbrev pub one_unmarked : Bool → ℕ
one_unmarked mark = if mark then 0 else 1

-- a mark for each start of the list and for no other address
pub record AreMarked (starts : List ℕ) (marks : List Bool) : Type 0 where
  pub len : length marks ≡ 65536
  pub count : length starts + sum_by one_unmarked marks ≡ 65536
  pub only : (a : ℕ) → slice_index_or marks a false ≡ true → Contains starts a
  pub all : (a : ℕ) → Contains starts a → slice_index_or marks a false ≡ true
