-- The map of a memory, and a step of the flat board over it.
use Rattle.m51_sim.proofs.Common.{◌≡◌, ℕ, ◌%◌, Bool, true, false, cond, Option, refl, ap, ◌∙◌, CellMap}
use Rattle.m51_sim.proofs.Common.{filled_map, map_after, map_of, arith, List, Ok, Err, Instr, Cpu, Pins, Effect}
use Rattle.m51_sim.proofs.Common.{plan_of, Script, ChipState}
use Rattle.std.proofs.Common.{◌/◌}
use Rattle.std.specs.Prelude.{nat_lt, slice_index}
use Rattle.std.specs.Int.{bit_at}
use Rattle.std.proofs.lemmas.Bool.{lt-ltb}
use Rattle.m51_flat.specs.declared.state.Put.{Put}
use Rattle.m51_flat.specs.States.{CellState, Holds, Absent, ram_written, state_over, states_after, xram_written}
use Rattle.m51_flat.specs.Flat.{FlatBytes, filled_cells, flat_cells}
use Rattle.m51_flat.specs.Causes.{IsWhole, unless_down}
use Rattle.m51_sim.specs.FlatMachine.{replaced, instr_effect}
use Rattle.m51_sim.specs.Boards.{value_in_cell, values_of, IsFlatStarted}
use Rattle.m51_cells.specs.declared.event.Event.TheVariants.{PowerDown as DownEvent}
use Rattle.m51_flat.specs.declared.state.Outcome.TheVariants.{Done, PowerDown}
use Rattle.m51_flat.specs.Reads.{result_over}
use Rattle.m51_sim.proofs.Beginning.{chip_at_reset}

-- maps with the same values are one
same_map : (m k : CellMap) → ((n : ℕ) → m.ram n ≡ k.ram n) → ((n : ℕ) → m.xram n ≡ k.xram n) → m ≡ k
same_map m k p q i = record { ram = λ n. p n i; xram = λ n. q n i }

held_inside : (inside : Bool) (v : ℕ) → inside ≡ true
    → cond inside (Holds v) Absent ≡ Holds (value_in_cell (cond inside (Holds v) Absent))
held_inside inside v e = rw e refl

-- a memory holds its map, and none of its cells is barred
pub flat_whole : (m : FlatBytes) → IsWhole (flat_cells m) (λ cell. false) (map_of m)
flat_whole m = record {
  ram = λ n h. held_inside (nat_lt n 2048) (bit_at (slice_index m.ram (n / 8)) (n % 8)) (lt-ltb n 2048 h);
  xram = λ n h. held_inside (nat_lt n 65536) (slice_index m.xram n) (lt-ltb n 65536 h);
  open_ = λ c. refl;
}

replaced_value : (o : Option ℕ) (old : CellState) → value_in_cell (state_over o old) ≡ replaced o (value_in_cell old)
replaced_value o old = grind arith

-- a put into memory is a put into its map
pub put_map : (put : Put) (old new : FlatBytes) → flat_cells new ≡ states_after put (flat_cells old)
    → map_of new ≡ map_after put (map_of old)
put_map put old new e =
    ap values_of e ∙ same_map (values_of (states_after put (flat_cells old))) (map_after put (map_of old))
    (λ n. replaced_value (ram_written put n) ((flat_cells old).ram n))
    (λ n. replaced_value (xram_written put n) ((flat_cells old).xram n))

inside_value : (inside : Bool) (v : ℕ) → value_in_cell (cond inside (Holds v) Absent) ≡ cond inside v 0
inside_value inside v = grind arith

-- memory with the fill everywhere has its map
filled_of : (fill : ℕ) (memory : FlatBytes) → flat_cells memory ≡ filled_cells fill
    → map_of memory ≡ filled_map fill
filled_of fill memory e =
    ap values_of e
    ∙ same_map (values_of (filled_cells fill)) (filled_map fill)
    (λ n. inside_value (nat_lt n 2048) (bit_at fill (n % 8)))
    (λ n. inside_value (nat_lt n 65536) fill)

-- over borrowed values
module _ (cpu lent : Cpu) (m : CellMap) (instr : Instr) (image bytes : List ℕ) (pins levels : Pins)
    (same_cpu : lent ≡ cpu) (same : bytes ≡ image) (same_pins : levels ≡ pins) where
  pub effect_done : (f : Effect) → Done f ≡ unless_down (result_over m (plan_of lent instr bytes levels))
      → Ok f ≡ instr_effect image cpu m pins instr
  unfolding instr_effect
  effect_done f h = by_flag _ _ f (rw (same_cpu, same, same_pins) at h)
    where
      by_flag : (down : Bool) (e f : Effect) → Done f ≡ cond down PowerDown (Done e)
          → Ok f ≡ cond down (Err (DownEvent cpu.pc)) (Ok e)
      by_flag true e f h = cc h
      by_flag false e f h = cc h

  pub effect_down : PowerDown ≡ unless_down (result_over m (plan_of lent instr bytes levels))
      → Err (DownEvent cpu.pc) ≡ instr_effect image cpu m pins instr
  unfolding instr_effect
  effect_down h = by_flag _ _ (rw (same_cpu, same, same_pins) at h)
    where
      by_flag : (down : Bool) (e : Effect) → PowerDown ≡ cond down PowerDown (Done e)
          → Err (DownEvent cpu.pc) ≡ cond down (Err (DownEvent cpu.pc)) (Ok e)
      by_flag true e h = refl
      by_flag false e h = cc h

-- after a reset
pub flat_started : (image : List ℕ) (script : Script) (fill : ℕ) (chip : ChipState) (memory : FlatBytes)
    → fill ≡ script.fill → chip ≡ chip_at_reset image script → flat_cells memory ≡ filled_cells fill
    → IsFlatStarted image script (record { chip = chip; memory = memory })
flat_started image script fill chip memory fills is filled = rw is (record {
  image_is = refl;
  script_is = refl;
  state = rw (filled_of fill memory filled, fills) refl;
})
