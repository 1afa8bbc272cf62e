-- The refusals of a script and of a control file.
use Rattle.std.specs.Prelude.{ℕ, List, [], ◌++◌, codes, decimal}
use Rattle.m51_control.specs.declared.error.ControlError.{ControlError}
use Rattle.m51_control.specs.declared.error.ControlError.TheVariants as control
use Rattle.m51_script.specs.declared.error.ScriptError.{ScriptError}
use Rattle.m51_script.specs.declared.error.ScriptError.TheVariants as script
use Rattle.m51_chain.specs.declared.work.Reason.TheVariants as reason
use Rattle.m51_chain.specs.Outcome.{Outcome, refused}

-- a line of the script is refused by this rule
abbrev pub script_refused : List ℕ → ℕ → Outcome
script_refused rule line =
    refused reason.Script (codes "SCRIPT LINE " ++ decimal line ++ codes ": " ++ rule ++ codes "\n")

-- a script is refused; never used for out of memory
abbrev pub script_outcome : ScriptError → Outcome
script_outcome (script.S1 line) = script_refused (codes "S1") line
script_outcome (script.S2 line) = script_refused (codes "S2") line
script_outcome (script.S3 line) = script_refused (codes "S3") line
script_outcome script.Limit = refused reason.Limit (codes "LIMIT SCRIPTLINES 65536\n")
script_outcome script.Memory = refused reason.Script []

-- a control file is refused; never used for out of memory
abbrev pub control_outcome : ControlError → Outcome
control_outcome (control.C1 line) =
    refused reason.Script (codes "CONTROL LINE " ++ decimal line ++ codes ": C1\n")
control_outcome control.Limit = refused reason.Limit (codes "LIMIT CONTROLLINES 1000\n")
control_outcome control.Memory = refused reason.Script []
