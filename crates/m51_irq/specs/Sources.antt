-- The sources of interrupts, from the family manual: flags, enables and levels.
use Rattle.std.specs.Prelude.{ℕ, Bool, ◌||◌, ◌&&◌, if◌then◌else◌, List, [], ◌∷◌}
use Rattle.m51_flat.specs.declared.state.Cpu.{Cpu}
use Rattle.m51_flat.specs.declared.state.Source.{Source}
use Rattle.m51_flat.specs.declared.state.Source.TheVariants.{Ie0, Tf0, Ie1, Tf1, Serial, Timer2}
use Rattle.m51_flat.specs.Flags.{ea, exf2, ie0, ie1, ri, tf0, tf1, tf2, ti}
use Rattle.m51_flat.specs.Sfr.{flag, ie, ip, scon, t2con, tcon}
use Rattle.m51_flat.specs.declared.state.Level.{Level}
use Rattle.m51_flat.specs.declared.state.Level.TheVariants.{Low, High}

-- the sources, in their order
abbrev pub sources : List Source
sources = Ie0 ∷ Tf0 ∷ Ie1 ∷ Tf1 ∷ Serial ∷ Timer2 ∷ []

-- the bit of IE that enables a source, and of IP that gives it the high level
abbrev pub enable_bit : Source → ℕ
enable_bit Ie0 = 0
enable_bit Tf0 = 1
enable_bit Ie1 = 2
enable_bit Tf1 = 3
enable_bit Serial = 4
enable_bit Timer2 = 5

-- its flag is 1: IE0, TF0, IE1, TF1, RI or TI, TF2 or EXF2
unfoldable pub has_flag : Cpu → Source → Bool
has_flag cpu Ie0 = flag cpu tcon ie0
has_flag cpu Tf0 = flag cpu tcon tf0
has_flag cpu Ie1 = flag cpu tcon ie1
has_flag cpu Tf1 = flag cpu tcon tf1
has_flag cpu Serial = flag cpu scon ri || flag cpu scon ti
has_flag cpu Timer2 = flag cpu t2con tf2 || flag cpu t2con exf2

-- EA and its own enable are 1
abbrev pub is_enabled : Cpu → Source → Bool
is_enabled cpu s = flag cpu ie ea && flag cpu ie (enable_bit s)

-- it asks: its flag, its enable and EA are 1
unfoldable pub asks : Cpu → Source → Bool
asks cpu s = has_flag cpu s && is_enabled cpu s

-- it has the high level where its bit of IP is 1
unfoldable pub level_of : Cpu → Source → Level
level_of cpu s = if flag cpu ip (enable_bit s) then High else Low
