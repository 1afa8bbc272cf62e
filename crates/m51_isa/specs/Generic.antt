-- The generic JMP and CALL, of which the assembler chooses the row (ASM51 guide).
use Rattle.std.specs.Prelude.{ℕ, if◌then◌else◌, List, codes, Option, Some, None}
use Rattle.std.specs.Str.{bytes_eq}
use Rattle.m51_isa.specs.declared.instr.Instr.{Instr}
use Rattle.m51_isa.specs.declared.instr.Instr.TheVariants.{SjmpRel, AjmpAddr11, AcallAddr11, LjmpAddr16, LcallAddr16}
use Rattle.m51_isa.specs.declared.look.Look.{Look}
use Rattle.m51_isa.specs.declared.look.Look.TheVariants.{Nothing, Plain}
use Rattle.m51_isa.specs.declared.generics.Jump.{Jump}
use Rattle.m51_isa.specs.declared.generics.Jump.TheVariants.{Short, Block, Long}
use Rattle.m51_isa.specs.declared.generics.Verb.{Verb}
use Rattle.m51_isa.specs.declared.generics.Verb.TheVariants.{Jmp, Call}

-- the generic mnemonic that a word is
abbrev pub verb_of : List ℕ → Option Verb
verb_of word =
    if bytes_eq word (codes "JMP") then Some Jmp else if bytes_eq word (codes "CALL") then Some Call else None

-- JMP or CALL with only an address
abbrev pub generic : List ℕ → Look → Look → Look → Option Verb
generic word Plain Nothing Nothing = verb_of word
generic word _ _ _ = None

-- the row of a generic jump of a form; there is no short call, and that of a block is taken for it
abbrev pub jump_row : Verb → Jump → Instr
jump_row Jmp Short = SjmpRel 0
jump_row Jmp Block = AjmpAddr11 0
jump_row Jmp Long = LjmpAddr16 0
jump_row Call Long = LcallAddr16 0
jump_row Call form = AcallAddr11 0
