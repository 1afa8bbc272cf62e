-- The special function registers of the 8052, as the family manual prints them.
use Prim.Native.String.{String}
use Rattle.std.specs.Prelude.{ℕ, List, [], ◌∷◌, codes}

-- a register: its name, its direct address, and the names of its bits from bit 7 down to bit 0
pub record Printed : Type 0 where
  pub name : List ℕ
  pub address : ℕ
  pub bits : List (List ℕ)

-- a register without named bits
abbrev pub plain : String → ℕ → Printed
plain name address = record { name = codes name; address = address; bits = [] }

-- a register with named bits; a bit without a name is empty
abbrev pub bitwise : String → ℕ → (b7 b6 b5 b4 b3 b2 b1 b0 : String) → Printed
bitwise name address b7 b6 b5 b4 b3 b2 b1 b0 = record {
  name = codes name;
  address = address;
  bits = codes b7 ∷ codes b6 ∷ codes b5 ∷ codes b4 ∷ codes b3 ∷ codes b2 ∷ codes b1 ∷ codes b0 ∷ [];
}

-- the map of the registers
abbrev pub manual : List Printed
manual =
    plain "P0" 0x80 ∷
    plain "SP" 0x81 ∷
    plain "DPL" 0x82 ∷
    plain "DPH" 0x83 ∷
    bitwise "PCON" 0x87 "SMOD" "" "" "" "" "" "PD" "IDL" ∷
    bitwise "TCON" 0x88 "TF1" "TR1" "TF0" "TR0" "IE1" "IT1" "IE0" "IT0" ∷
    plain "TMOD" 0x89 ∷
    plain "TL0" 0x8A ∷
    plain "TL1" 0x8B ∷
    plain "TH0" 0x8C ∷
    plain "TH1" 0x8D ∷
    bitwise "P1" 0x90 "" "" "" "" "" "" "T2EX" "T2" ∷
    bitwise "SCON" 0x98 "SM0" "SM1" "SM2" "REN" "TB8" "RB8" "TI" "RI" ∷
    plain "SBUF" 0x99 ∷
    plain "P2" 0xA0 ∷
    bitwise "IE" 0xA8 "EA" "" "ET2" "ES" "ET1" "EX1" "ET0" "EX0" ∷
    bitwise "P3" 0xB0 "RD" "WR" "T1" "T0" "INT1" "INT0" "TXD" "RXD" ∷
    bitwise "IP" 0xB8 "" "" "PT2" "PS" "PT1" "PX1" "PT0" "PX0" ∷
    bitwise "T2CON" 0xC8 "TF2" "EXF2" "RCLK" "TCLK" "EXEN2" "TR2" "C/T2" "CP/RL2" ∷
    plain "RCAP2L" 0xCA ∷
    plain "RCAP2H" 0xCB ∷
    plain "TL2" 0xCC ∷
    plain "TH2" 0xCD ∷
    bitwise "PSW" 0xD0 "CY" "AC" "F0" "RS1" "RS0" "OV" "" "P" ∷
    plain "ACC" 0xE0 ∷
    plain "B" 0xF0 ∷ []
