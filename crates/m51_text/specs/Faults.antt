-- The faults of a text, at most one for each line.
use Rattle.std.specs.Prelude.{ℕ, ◌+◌, ◌==◌, ◌&&◌, ◌||◌, not, Bool, true, false, nat_lt, if◌then◌else◌, List, [], ◌∷◌}
use Rattle.std.specs.Prelude.{◌++◌, length, Option, Some, None, Result, Ok, Err}
use Rattle.std.specs.List.{list_any}
use Rattle.m51_module.specs.declared.source.SourceFile.{SourceFile}
use Rattle.m51_stmt.specs.Statement.{StmtTree}
use Rattle.m51_module.specs.declared.source.Fault.{Fault}
use Rattle.m51_cells.specs.declared.fault.TheConstants.{MISPLACED_END, BAD_INCLUDE, TOO_MANY}
use Rattle.m51_cells.specs.declared.limits.TheConstants.{MOST_SOURCE_LINES}
use Rattle.m51_text.specs.declared.inclusion.Inclusion.{Inclusion}
use Rattle.m51_text.specs.declared.inclusion.Inclusion.TheVariants.{Refused}
use Rattle.m51_text.specs.Said.{said, is_end, has_content}
use Rattle.m51_text.specs.Text.{TextLine, inclusion_of}

-- the line is in the source itself
abbrev pub is_of_source : TextLine → Bool
is_of_source line = line.file == 0

-- the line is an END of the source
abbrev pub ends_source : TextLine → Bool
ends_source line = is_of_source line && is_end (said line.bytes)

-- text after the END of the source, or an END in an include
abbrev pub is_misplaced : Bool → Bool → StmtTree → Bool
is_misplaced ended in_source statement = ended && has_content statement || is_end (Ok statement) && not in_source

-- END is missing in a text: it was read to its end, and no line of the source is END
abbrev pub lacks_end : List TextLine → Bool
lacks_end text = nat_lt (length text) (MOST_SOURCE_LINES + 1) && not (list_any ends_source text)

-- the last line of the source itself, above these lines
abbrev pub is_last_of_source : TextLine → List TextLine → Bool
is_last_of_source line below = is_of_source line && not (list_any is_of_source below)

-- an include that is not given or too deep
abbrev pub is_refused : Inclusion → Bool
is_refused Refused = true
is_refused inclusion = false

-- the first fault by its place of a line that says a statement: it is on the wrong side of END, its include is not
-- given or too deep, or it is line 65,536 of the text
abbrev pub fault_by_place : Bool → Inclusion → ℕ → Option ℕ
fault_by_place misplaced inclusion above =
    if misplaced then Some MISPLACED_END
    else if is_refused inclusion then Some BAD_INCLUDE
    else if above == MOST_SOURCE_LINES then Some TOO_MANY
    else None

-- the fault of a line that says this
abbrev pub fault_with : List SourceFile → List TextLine → TextLine → Bool → Result StmtTree ℕ → Option ℕ
fault_with includes above line without_end (Err number) = Some number
fault_with includes above line without_end (Ok statement) =
    fault_by_place (without_end || is_misplaced (list_any ends_source above) (is_of_source line) statement)
    (inclusion_of includes line.levels (Ok statement)) (length above)

-- The fault of a line with these lines above it, and at which END is missing or not: of what it says, or else by its
-- place.
abbrev pub fault_on_line : List SourceFile → List TextLine → TextLine → Bool → Option ℕ
fault_on_line includes above line without_end = fault_with includes above line without_end (said line.bytes)

-- the fault of a line, if it has one, before those of the lines below
abbrev pub before : TextLine → Option ℕ → List Fault → List Fault
before line (Some number) faults = record { file = line.file; line = line.line; number = number } ∷ faults
before line None faults = faults

-- the faults of lines below those above them, where the text lacks END or not
abbrev pub faults_from : List SourceFile → Bool → List TextLine → List TextLine → List Fault
faults_from includes lacking above [] = []
faults_from includes lacking above (line ∷ below) =
    before line (fault_on_line includes above line (lacking && is_last_of_source line below))
    (faults_from includes lacking (above ++ line ∷ []) below)

-- The faults of a text in the order of its lines. A text without lines lacks END at line 1 of the source.
abbrev pub faults_of : List SourceFile → List TextLine → List Fault
faults_of includes [] = (record { file = 0; line = 1; number = MISPLACED_END }) ∷ []
faults_of includes (line ∷ lines) = faults_from includes (lacks_end (line ∷ lines)) [] (line ∷ lines)
