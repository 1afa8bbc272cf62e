-- What a call answers whose one refusal is that of the words; out of memory is free.
use Rattle.std.specs.Prelude.{◌≡◌, Option, Some, None, Result, Ok, Err}
use Rattle.clap.specs.declared.error.kind.ErrorKind.{ErrorKind}
use Rattle.clap.specs.declared.error.kind.ErrorKind.TheVariants.{OutOfMemory}
use Rattle.m51_args.specs.declared.error.WordsError.{WordsError}
use Rattle.m51_args.specs.declared.error.WordsError.TheVariants.{Usage, Memory}

-- The call answers what the definition does, out of memory aside. View is what contracts see of its value.
abbrev pub AsksFor : {T V : Type 0} → (T → V) → Result T WordsError → Option V → Type 0
AsksFor view (Ok value) answer = answer ≡ Some (view value)
AsksFor view (Err Usage) answer = answer ≡ None
AsksFor view (Err Memory) answer = Unit {0}

-- what an error of that kind refuses
abbrev pub refused_by : ErrorKind → WordsError
refused_by OutOfMemory = Memory
refused_by kind = Usage
