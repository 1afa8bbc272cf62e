-- What the top call says of a run: the text and the event of its record.
use Rattle.std.specs.Prelude.{◌≡◌, ℕ, List, [], Option, Some, None}
use Rattle.std.specs.Io.KnownBytes.{Appends}
use Rattle.m51_cells.specs.Outside.{AppendsFront}
use Rattle.m51_cells.specs.declared.event.Event.{Event}
use Rattle.m51_module.specs.declared.parts.LayoutParts.{LayoutParts}
use Rattle.m51_print.specs.Lines.{titles_of}
use Rattle.m51_script.specs.declared.script.Script.{Script}
use Rattle.m51_sim.specs.declared.runs.RunEnd.{RunEnd}
use Rattle.m51_sim.specs.declared.runs.RunEnd.TheVariants as ends
use Rattle.m51_sim.specs.Cycles.{inputs_of}
use Rattle.m51_sim.specs.Runs.{Record, record_of}
use Rattle.m51_sim.specs.Run.{record_text}
use Rattle.m51_sim.specs.FlatMachine.{filled_map, flat_machine, reset_with}
use Rattle.m51_sim.specs.SeparateMachine.{separate_machine, separate_start}

-- the text of a record, and the event that ended it, if one did
pub record Report : Type 0 where
  pub event : Option Event
  pub text : List ℕ

abbrev pub reported : {M : Type 0} → List (List ℕ) → Record M → Report
reported titles r = record { event = r.event; text = record_text titles r }

-- a linked program with a script: at most `n` steps of the separate machine, after a reset
unfoldable pub report_of : LayoutParts → List ℕ → Script → ℕ → Report
report_of layout image script n =
    let inputs = inputs_of script in
    reported (titles_of layout.placed)
    (record_of (separate_machine layout image inputs) n (reset_with inputs (separate_start layout script.fill)))

-- an image with a script: at most `n` steps of the flat machine, after a reset, from the fill everywhere
unfoldable pub flat_report_of : List ℕ → Script → ℕ → Report
flat_report_of image script n =
    let inputs = inputs_of script in
    reported [] (record_of (flat_machine image inputs) n (reset_with inputs (filled_map script.fill)))

-- The text has grown by the report, and this is how the run ended; if the sink has failed, by a prefix of it.
abbrev pub IsReported : Report → Option (List ℕ) → Option (List ℕ) → RunEnd → Type 0
IsReported report before after ends.Finished = (report.event ≡ None) × Appends before after report.text
IsReported report before after (ends.Stopped event) =
    (report.event ≡ Some event) × Appends before after report.text
IsReported report before after ends.WriteFault = AppendsFront before after report.text

-- of a linked program, and of an image
abbrev pub IsReport : LayoutParts → List ℕ → Script → ℕ → Option (List ℕ) → Option (List ℕ) → RunEnd → Type 0
IsReport layout image script n before after end = IsReported (report_of layout image script n) before after end

abbrev pub IsFlatReport : List ℕ → Script → ℕ → Option (List ℕ) → Option (List ℕ) → RunEnd → Type 0
IsFlatReport image script n before after end = IsReported (flat_report_of image script n) before after end
