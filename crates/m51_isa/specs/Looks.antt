-- What an operand looks like, as its kind and the number of its register.
use Rattle.std.specs.Prelude.{ℕ}
use Rattle.m51_isa.specs.declared.look.Look.{Look}
use Rattle.m51_isa.specs.declared.look.Look.TheVariants.{Nothing, A, Ab, C, Dptr, APc, ADptr, AtDptr, R, AtR, Imm}
use Rattle.m51_isa.specs.declared.look.Look.TheVariants.{Plain, NotBit, Other}

-- a number for each way to look, whatever the register
abbrev pub look_kind : Look → ℕ
look_kind Nothing = 0
look_kind A = 1
look_kind Ab = 2
look_kind C = 3
look_kind Dptr = 4
look_kind APc = 5
look_kind ADptr = 6
look_kind AtDptr = 7
look_kind (R n) = 8
look_kind (AtR n) = 9
look_kind Imm = 10
look_kind Plain = 11
look_kind NotBit = 12
look_kind Other = 13

-- the number of the register, else 0
abbrev pub number_in : Look → ℕ
number_in (R n) = n
number_in (AtR n) = n
number_in l = 0
