-- What flat makes of its HEX file and its script.
use Rattle.std.specs.Prelude.{◌≡◌, ℕ, List, [], ◌∷◌, codes, length, ◌++◌, Option, Some, None, Result, Ok, Err}
use Rattle.m51_hex.specs.declared.error.HexError.{HexError}
use Rattle.m51_hex.specs.Memory.{memory_in}
use Rattle.m51_hex.specs.Reading.{memory_from}
use Rattle.m51_module.specs.declared.image.TheConstants.{IMAGE_LEN}
use Rattle.m51_script.specs.declared.error.ScriptError.{ScriptError}
use Rattle.m51_script.specs.declared.script.Script.{Script}
use Rattle.m51_script.specs.Reading.{plain_script, script_of}
use Rattle.m51_sim.specs.Report.{flat_report_of}
use Rattle.m51_jobs.specs.declared.job.FlatJob.{FlatJob}
use Rattle.m51_chain.specs.ScriptRefusals.{script_outcome}
use Rattle.m51_chain.specs.Optional.{content_if}
use Rattle.m51_chain.specs.Outcome.{Outcome, status_by}
use Rattle.m51_chain.specs.Refusals.{hex_outcome}

-- RUN, and the record of at most `steps` steps of the image on one memory, with a script
abbrev pub flat_report : List ℕ → Script → ℕ → Outcome
flat_report image script steps = record {
  status = status_by (flat_report_of image script steps).event;
  text = codes "RUN\n" ++ (flat_report_of image script steps).text;
  keeps = None;
}

-- the script of a file; without a file it is the one without lines
abbrev pub script_in : Option (List ℕ) → Result Script ScriptError
script_in None = Ok plain_script
script_in (Some bytes) = script_of bytes

-- The script is refused, or the image is run with it.
pub data IsScripted (job : FlatJob) (image : List ℕ) (script : Option (List ℕ)) (outcome : Outcome) : Type 0 where
  ScriptRefused : (error : ScriptError) → script_in script ≡ Err error → outcome ≡ script_outcome error
      → IsScripted job image script outcome
  Ran : (with : Script) → script_in script ≡ Ok with → outcome ≡ flat_report image with job.steps
      → IsScripted job image script outcome

-- The HEX file is refused; or it is read as an image, and the script decides.
pub data IsFlatWork (job : FlatJob) (file : List ℕ) (script : Option (List ℕ)) (outcome : Outcome) : Type 0 where
  HexRefused : (error : HexError) → memory_from file ≡ Err error → outcome ≡ hex_outcome job.file error
      → IsFlatWork job file script outcome
  HexRead : (image : List ℕ) → length image ≡ IMAGE_LEN → memory_from file ≡ Ok (memory_in image)
      → IsScripted job image script outcome → IsFlatWork job file script outcome

-- what flat makes of the contents of its files, of which the HEX file is the first
abbrev pub IsFlatOutcome : FlatJob → List (List ℕ) → Outcome → Type 0
IsFlatOutcome job (file ∷ others) outcome = IsFlatWork job file (content_if job.script others) outcome
IsFlatOutcome job [] outcome = ⊥
