-- The report of a linked program: its map, and the record of its run.
use Rattle.std.specs.Prelude.{◌≡◌, ℕ, List, ◌++◌, codes, map, sum, Option, option_map}
use Rattle.m51_hex.specs.Writing.{hex_of}
use Rattle.m51_linker.specs.declared.linked.Linked.{Linked}
use Rattle.m51_module.specs.declared.linked.Chain.{Chain}
use Rattle.m51_module.specs.declared.linked.Run.{Run}
use Rattle.m51_module.specs.Chains.{AreHeaviest}
use Rattle.m51_module.specs.Sound.{IsSound}
use Rattle.m51_print.specs.Map.{map_of}
use Rattle.m51_script.specs.declared.script.Script.{Script}
use Rattle.m51_sim.specs.Report.{report_of}
use Rattle.m51_chain.specs.Outcome.{Outcome, status_by}

-- how many bytes content fills
abbrev pub filled_by : List Run → ℕ
filled_by runs = sum (map (λ run. run.len) runs)

-- the map of a linked program with these heaviest chains, and RUN
abbrev pub map_and_run : Linked → List Chain → List ℕ
map_and_run linked chains =
    map_of linked.layout linked.roots chains (filled_by linked.written) ++ codes "RUN\n"

-- the HEX of a linked program, where a file is named for it
abbrev pub hex_kept : Option (List ℕ) → Linked → Option (List ℕ)
hex_kept name linked = option_map (λ _. hex_of linked.image linked.written) name

-- the report of a linked program: the map, RUN, and the record of at most `steps` steps with a script; its HEX is kept
abbrev pub program_report : Linked → List Chain → Option (List ℕ) → Script → ℕ → Outcome
program_report linked chains hex script steps = record {
  status = status_by (report_of linked.layout linked.image script steps).event;
  text = map_and_run linked chains ++ (report_of linked.layout linked.image script steps).text;
  keeps = hex_kept hex linked;
}

-- the map, with the heaviest chains of the layout, which is sound
pub record IsMap (linked : Linked) (text : List ℕ) : Type 0 where
  pub sound : IsSound linked.layout
  pub chains : List Chain
  pub heaviest : AreHeaviest linked.layout chains
  pub is : text ≡ map_and_run linked chains

-- the report, with the heaviest chains of the layout, which is sound
pub record IsReport (linked : Linked) (hex : Option (List ℕ)) (script : Script) (steps : ℕ) (outcome : Outcome)
    : Type 0 where
  pub sound : IsSound linked.layout
  pub chains : List Chain
  pub heaviest : AreHeaviest linked.layout chains
  pub is : outcome ≡ program_report linked chains hex script steps
