-- External memory, program memory and the stack, from the family manual.
use Rattle.std.specs.Prelude.{ℕ, ◌+◌, ◌*◌, ◌%◌, List, slice_index}
use Rattle.m51_flat.specs.declared.state.Cpu.{Cpu}
use Rattle.m51_flat.specs.declared.state.Pins.{Pins}
use Rattle.m51_flat.specs.declared.state.Put.TheVariants.{Xbyte}
use Rattle.m51_flat.specs.declared.state.Effect.{Effect}
use Rattle.m51_flat.specs.declared.actions.Addressing.{Addressing}
use Rattle.m51_flat.specs.declared.actions.ByteOperand.TheVariants.{At}
use Rattle.m51_flat.specs.declared.actions.Location.TheVariants.{Ram}
use Rattle.m51_flat.specs.declared.actions.ExternalAt.{ExternalAt}
use Rattle.m51_flat.specs.declared.actions.ExternalAt.TheVariants.{ByDptr, ByRegister}
use Rattle.m51_flat.specs.declared.actions.CodeBase.{CodeBase}
use Rattle.m51_flat.specs.declared.actions.CodeBase.TheVariants.{FromDptr, FromNext}
use Rattle.m51_flat.specs.Reads.{Reads, Ends, Read, ByteAt, XbyteAt, then_read}
use Rattle.m51_flat.specs.Sfr.{acc, p2, sp, latch, with_sfr}
use Rattle.m51_flat.specs.Operands.{bank, location_of, operand_value, with_location}
use Rattle.m51_flat.specs.Parts.{dptr_of}

-- an address in external memory: DPTR, or the latch of P2 and a register
unfoldable pub external_address : Cpu → ExternalAt → Reads ℕ
external_address cpu ByDptr = Ends (dptr_of cpu)
external_address cpu (ByRegister i) = Read (ByteAt (bank cpu + i)) (λ p. Ends (latch cpu p2 * 256 + p))

-- A is loaded from external memory
unfoldable pub external_loaded : Effect → ExternalAt → Reads Effect
external_loaded e from = then_read (external_address e.cpu from) (λ a. Read (XbyteAt a) (λ v. Ends (with_sfr acc v e)))

-- A is stored in external memory
unfoldable pub external_stored : Effect → ExternalAt → Reads Effect
external_stored e to =
    then_read (external_address e.cpu to) (λ a. Ends (record e { first = Xbyte a (latch e.cpu acc) }))

-- what A is added to: DPTR, or the address of the next instruction
abbrev pub code_base : Cpu → CodeBase → ℕ
code_base cpu FromDptr = dptr_of cpu
code_base cpu FromNext = cpu.pc

-- A is loaded from program memory
unfoldable pub code_loaded : List ℕ → Effect → CodeBase → Effect
code_loaded image e base =
    with_sfr acc (slice_index image ((code_base e.cpu base + latch e.cpu acc) % 65536)) e

-- SP is raised before the operand is read
unfoldable pub pushed : Pins → Effect → Addressing → Reads Effect
pushed ext e addressing =
    let top = (latch e.cpu sp + 1) % 256 in
    let raised = with_sfr sp top e in
    then_read (operand_value raised.cpu ext (At addressing)) (λ v. Ends (with_location (Ram top) v raised))

-- SP is lowered before the operand is written
unfoldable pub popped : Effect → Addressing → Reads Effect
popped e addressing =
    let top = latch e.cpu sp in
    then_read (location_of e.cpu addressing) (λ at.
    Read (ByteAt top) (λ v. Ends (with_location at v (with_sfr sp ((top + 255) % 256) e))))
