-- Types of values, by what takes them.

-- the type of a value that a function takes
abbrev pub taken_by : {A B : Type 0} → (A → B) → Type 0
taken_by {A} f = A
