-- The result of a call that may run out of memory.
use Rattle.std.specs.Prelude.{◌≡◌, Option, Some, None, Result, Ok, Err}

-- An error is the refusal that the definition gives; out of memory, which has no refusal, says nothing.
abbrev pub RefusesWith : {V R : Type 0} → Option R → Result V R → Type 0
RefusesWith None answer = Unit {0}
RefusesWith (Some refusal) answer = answer ≡ Err refusal

-- The call returns what the definition gives, out of memory aside: view is what contracts see of its value, and
-- refusal maps an error to the definition's refusal, or to none for out of memory.
abbrev pub Gives : {T V E R : Type 0} → (T → V) → (E → Option R) → Result T E → Result V R → Type 0
Gives view refusal (Ok value) answer = answer ≡ Ok (view value)
Gives view refusal (Err error) answer = RefusesWith (refusal error) answer

-- continues with the value; an error is the result
abbrev pub and_then : {A B E : Type 0} → Result A E → (A → Result B E) → Result B E
and_then (Ok value) go = go value
and_then (Err error) go = Err error

-- the same as an operator, to write a definition in steps
infixl 10 ◌>>=◌
abbrev pub ◌>>=◌ : {A B E : Type 0} → Result A E → (A → Result B E) → Result B E
answer >>= go = and_then answer go
