-- The words of the language (ASM51 guide, without its macro language).
use Rattle.std.specs.Prelude.{ℕ, Bool, ◌||◌, List, [], ◌∷◌, codes}
use Rattle.std.specs.List.{list_any}
use Rattle.std.specs.Str.{bytes_eq}
use Rattle.m51_isa.specs.Mnemonics.{mnemonics}

-- the words that begin directives and definitions, and AT
abbrev pub directives : List (List ℕ)
directives =
    codes "AT" ∷ codes "BSEG" ∷ codes "CSEG" ∷ codes "DB" ∷ codes "DBIT" ∷ codes "DS" ∷ codes "DSEG" ∷
    codes "DW" ∷ codes "END" ∷ codes "EQU" ∷ codes "EXTRN" ∷ codes "ISEG" ∷ codes "NAME" ∷ codes "ORG" ∷
    codes "PUBLIC" ∷ codes "RSEG" ∷ codes "SEGMENT" ∷ codes "SET" ∷ codes "USING" ∷ codes "XSEG" ∷ []

-- the kinds, with NUMBER, and the types of segments, with OVERLAYABLE
abbrev pub kinds_and_types : List (List ℕ)
kinds_and_types =
    codes "BIT" ∷ codes "CODE" ∷ codes "DATA" ∷ codes "IDATA" ∷ codes "NUMBER" ∷ codes "XDATA" ∷
    codes "BITADDRESSABLE" ∷ codes "INBLOCK" ∷ codes "INPAGE" ∷ codes "OVERLAYABLE" ∷ codes "PAGE" ∷
    codes "UNIT" ∷ []

-- the registers of instructions
abbrev pub registers : List (List ℕ)
registers =
    codes "A" ∷ codes "AB" ∷ codes "C" ∷ codes "DPTR" ∷ codes "PC" ∷ codes "R0" ∷ codes "R1" ∷ codes "R2" ∷
    codes "R3" ∷ codes "R4" ∷ codes "R5" ∷ codes "R6" ∷ codes "R7" ∷ []

-- the registers of the bank in use as direct addresses: names that have a value
abbrev pub bank_registers : List (List ℕ)
bank_registers =
    codes "AR0" ∷ codes "AR1" ∷ codes "AR2" ∷ codes "AR3" ∷ codes "AR4" ∷ codes "AR5" ∷ codes "AR6" ∷
    codes "AR7" ∷ []

-- the operators that are words
abbrev pub operators : List (List ℕ)
operators =
    codes "HIGH" ∷ codes "LOW" ∷ codes "NOT" ∷ codes "MOD" ∷ codes "SHL" ∷ codes "SHR" ∷ codes "EQ" ∷
    codes "NE" ∷ codes "LT" ∷ codes "LE" ∷ codes "GT" ∷ codes "GE" ∷ codes "AND" ∷ codes "OR" ∷ codes "XOR" ∷ []

-- one of these words
abbrev pub is_word_among : List ℕ → List (List ℕ) → Bool
is_word_among word words = list_any (λ w. bytes_eq w word) words

-- a mnemonic, a directive, a kind, a type or a register: no expression begins with it
unfoldable pub is_language_word : List ℕ → Bool
is_language_word word =
    ((is_word_among word mnemonics || is_word_among word directives) || is_word_among word kinds_and_types)
    || is_word_among word registers

-- what nothing can define
unfoldable pub is_reserved : List ℕ → Bool
is_reserved word = (is_language_word word || is_word_among word bank_registers) || is_word_among word operators
