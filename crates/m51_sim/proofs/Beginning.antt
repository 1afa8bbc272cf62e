-- A board after a reset, and what a run from there reports.
use Rattle.m51_sim.proofs.Common.{◌≡◌, ℕ, List, [], Option, Some, None, refl, subst, LayoutParts, IsSound, Cpu}
use Rattle.m51_sim.proofs.Common.{Script, unit_found, AreActivations, Monitored, ChipState, IsInOrder, held_memory}
use Rattle.m51_sim.proofs.Common.{stores_read, inputs_of, separate_start}
use Rattle.m51_sim.proofs.Common.{flat_machine, Machine, State, separate_machine}
use Rattle.m51_module.specs.Plan.{IsUnitAt}
use Rattle.m51_module.proofs.Units.{one_unit}
use Rattle.m51_flat.specs.Reset.{reset_cpu}
use Rattle.m51_timers_uart.specs.Tick.{reset_periph}
use Rattle.m51_monitor.specs.Monitored.{IsStart}
use Rattle.m51_monitor.specs.Transfers.{IsFoundAt}
use Rattle.m51_monitor.proofs.CurrentUnit.{root_covers}
use Rattle.m51_monitor.proofs.Finding.{unit_found_is}
use Rattle.m51_sim.specs.Boards.{IsStarted, BoardState, FlatState, IsFlatStarted, flat_of, separate_of}
use Rattle.m51_sim.specs.SeparateMachine.{or_zero, reset_unit}
use Rattle.m51_sim.proofs.StoresRead.{read_same}
use Rattle.m51_print.specs.Lines.{titles_of}
use Rattle.m51_sim.specs.declared.runs.RunEnd.{RunEnd}
use Rattle.m51_sim.specs.Report.{IsFlatReport, IsReport, IsReported, flat_report_of, report_of, reported}
use Rattle.m51_sim.specs.Run.{Ended}
use Rattle.m51_sim.specs.Runs.{record_of}
use Rattle.m51_sim.specs.declared.runs.RunEnd.TheVariants as ends

unit_is : (l : LayoutParts) (u : ℕ) (o : Option ℕ) → IsSound l → IsUnitAt l 0 u → IsFoundAt l 0 o → u ≡ or_zero o
unit_is l u (Some v) sound at found = one_unit l sound 0 u v at found
unit_is l u None sound at found = absurd (found u at)

-- what a chip has after a reset
abbrev pub chip_at_reset : List ℕ → Script → ChipState
chip_at_reset image script =
    record {
      image = image;
      script = script;
      cpu = reset_cpu;
      periph = reset_periph ((inputs_of script).pins 0);
      cycle = 0;
    }

module _ (l : LayoutParts) (fill : ℕ) (m : Monitored) (sound : IsSound m.layout)
    (may : AreActivations m.layout m.records) (start : IsStart l fill m) where
  is_sound : IsSound l
  is_sound = subst IsSound start.layout sound

  root_at : IsUnitAt l 0 start.root
  root_at = root_covers l 0 start.root is_sound start.is_root

  root_is : start.root ≡ reset_unit l
  root_is = unit_is l start.root (unit_found l 0) is_sound root_at (unit_found_is l 0)

  pub start_order : (cpu : Cpu) → cpu ≡ reset_cpu → IsInOrder m cpu
  start_order cpu is = rw is (record {
    covered = rw (start.layout, start.records) root_at;
    above = rw start.records tt;
    taken = [];
    have = rw start.records (record { each = refl; same = refl });
  })

  start_stores : stores_read m ≡ (separate_start l fill).stores
  start_stores = read_same m sound may _ start.stores

  start_memory : held_memory m ≡ separate_start l fill
  start_memory = rw (start_stores, start.records, root_is) refl

  pub is_started : (image : List ℕ) (script : Script) (chip : ChipState) → script.fill ≡ fill
      → chip ≡ chip_at_reset image script → IsStarted l image script (record { chip = chip; monitor = m })
  is_started image script chip fills is = rw (is, fills) (record {
    layout_is = start.layout;
    image_is = refl;
    script_is = refl;
    state = rw (start_memory) refl;
  })

reports : {M : Type 0} (before after : Option (List ℕ)) (titles : List (List ℕ)) (machine : Machine M) (n : ℕ)
    (first now : State M) (end : RunEnd)
    → Ended before after titles machine n first now end
    → IsReported (reported titles (record_of machine n first)) before after end
reports before after titles machine n first now ends.Finished h = (h.event_is, h.text)
reports before after titles machine n first now (ends.Stopped event) h = (h.event_is, h.text)
reports before after titles machine n first now ends.WriteFault h = h.front

pub is_report : (l : LayoutParts) (image : List ℕ) (script : Script) (n : ℕ) (before after : Option (List ℕ))
    (board new : BoardState) (end : RunEnd) → IsStarted l image script board
    → Ended before after (titles_of board.monitor.layout.placed)
    (separate_machine board.monitor.layout board.chip.image (inputs_of board.chip.script)) n (separate_of board)
    (separate_of new) end
    → IsReport l image script n before after end
unfolding report_of
is_report l image script n before after board new end start h =
    reports _ _ _ _ n _ _ end
    (rw (start.state, start.layout_is, start.image_is, start.script_is) at h)

pub is_flat_report : (image : List ℕ) (script : Script) (n : ℕ) (before after : Option (List ℕ)) (board new : FlatState)
    (end : RunEnd) → IsFlatStarted image script board
    → Ended before after [] (flat_machine board.chip.image (inputs_of board.chip.script)) n (flat_of board)
    (flat_of new) end
    → IsFlatReport image script n before after end
unfolding flat_report_of
is_flat_report image script n before after board new end start h =
    reports _ _ _ _ n _ _ end
    (rw (start.state, start.image_is, start.script_is) at h)
