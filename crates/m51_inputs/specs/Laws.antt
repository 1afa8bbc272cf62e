-- What is promised of the answers for files.
use Rattle.std.specs.Prelude.{◌≡◌, ℕ, List, Option, Result}
use Rattle.m51_inputs.specs.declared.error.InputError.{InputError}
use Rattle.m51_inputs.specs.Inputs.{InputsTree, IsInputsAnswer}

-- there is an answer for these files, and each other answer is the same
pub record HasOneAnswer (files contents : List (List ℕ)) (control script : Option (List ℕ)) : Type 0 where
  pub answer : Result InputsTree InputError
  pub is : IsInputsAnswer files contents control script answer
  pub only : (other : Result InputsTree InputError) → IsInputsAnswer files contents control script other → other
      ≡ answer

abbrev pub OneInputsAnswer : Type 0
OneInputsAnswer = (files contents : List (List ℕ)) (control script : Option (List ℕ))
    → HasOneAnswer files contents control script
