-- The exit status of the command for each way in which it ends. docs/COMMAND.md has the same table.
use Rattle.std.specs.Prelude.{◌≡◌, ℕ}
use Rattle.m51_chain.specs.declared.status.TheConstants.{NOT_TEXT}
use Rattle.m51_chain.specs.declared.status.Status.{Status}
use Rattle.m51_chain.specs.declared.status.Status.TheVariants.{Ran, Event, Usage, Source, Link, Object, Script, Limit}
use Rattle.m51_chain.specs.declared.status.Status.TheVariants.{ReadFault, WriteFault, Memory, Stack}

abbrev pub exit_number : Status → ℕ
exit_number Ran = 0
exit_number Event = 1
exit_number Usage = 2
exit_number Source = 3
exit_number Link = 4
exit_number Object = 5
exit_number Script = 6
exit_number Limit = 7
exit_number ReadFault = 8
exit_number WriteFault = 9
exit_number Memory = 10
exit_number Stack = 11

-- an argument that is no text: the program ends so before the top call
abbrev pub NotTextHasNumber : Type 0
NotTextHasNumber = NOT_TEXT ≡ 12
