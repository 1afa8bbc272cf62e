-- The text of a trace: the titles of its columns and the run with its notes, or the run and the table of counts.
use Rattle.std.specs.Prelude.{ℕ, List, [], ◌++◌, codes}
use Rattle.m51_print.specs.Lines.{titles_of}
use Rattle.m51_sim.specs.Boards.{BoardState, separate_of}
use Rattle.m51_sim.specs.Cycles.{inputs_of}
use Rattle.m51_sim.specs.Runs.{Machine}
use Rattle.m51_sim.specs.SeparateMachine.{Separate, separate_machine}
use Rattle.m51_steps.specs.declared.shape.Shape.{Shape}
use Rattle.m51_steps.specs.declared.shape.Shape.TheVariants.{Lines, Ram, Counts}
use Rattle.m51_steps.specs.Counts.{Table, begun, table_of, table_text}
use Rattle.m51_steps.specs.Noted.{noted}
use Rattle.m51_steps.specs.Shapes.{note_of}

-- the titles of the columns of a state's line
abbrev pub titles_line : List ℕ → List ℕ
titles_line more = codes "STEP\tCYCLE\tPC\tNEXT\tA\tB\tPSW\tSP\tDPTR\tUNIT" ++ more ++ codes "\n"

-- what comes before the run
abbrev pub heading : Shape → List ℕ
heading (Lines w) = titles_line []
heading (Ram w) = titles_line (codes "\tACTIVE\tRAM")
heading Counts = []

-- the machine of a board
abbrev pub machine_of : BoardState → Machine Separate
machine_of board = separate_machine board.monitor.layout board.chip.image (inputs_of board.chip.script)

-- what comes after it, where this was counted
abbrev pub ending_by : Shape → List ℕ → Table → List ℕ
ending_by (Lines w) image t = []
ending_by (Ram w) image t = []
ending_by Counts image t = table_text image t

-- how often each instruction of a run of at most `n` steps began, and how many cycles it took
abbrev pub run_table : BoardState → ℕ → Table
run_table board n = table_of board.chip.image (begun (machine_of board) n (separate_of board))

-- the run of at most `n` steps with its notes
abbrev pub noted_run : Shape → BoardState → ℕ → List ℕ
noted_run shape board n =
    noted (titles_of board.monitor.layout.placed) (machine_of board)
    (note_of shape board.monitor.layout board.chip.image) n (separate_of board)

-- the text of a trace of at most `n` steps
unfoldable pub traced_text : Shape → BoardState → ℕ → List ℕ
traced_text shape board n =
    heading shape ++ noted_run shape board n ++ ending_by shape board.chip.image (run_table board n)
