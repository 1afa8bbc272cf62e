-- What the mnemonics promise.
use Rattle.std.specs.Prelude.{◌≡◌, ◌⊎◌, ℕ, IsTrue, List, codes}
use Rattle.m51_isa.specs.declared.instr.Instr.{Instr}
use Rattle.m51_isa.specs.Spelling.{text_of}
use Rattle.m51_isa.specs.Mnemonics.{is_mnemonic}

-- a row is written with this mnemonic
pub record IsOfRow (word : List ℕ) : Type 0 where
  pub row : Instr
  pub is : (text_of row).mnemonic ≡ word

-- The mnemonic of each row is one of the mnemonics; and each of them but the generic CALL is that of a row.
pub record MnemonicsAreOfRows : Type 0 where
  pub rows : (i : Instr) → IsTrue (is_mnemonic (text_of i).mnemonic)
  pub call : IsTrue (is_mnemonic (codes "CALL"))
  pub named : (word : List ℕ) → IsTrue (is_mnemonic word) → (word ≡ codes "CALL") ⊎ IsOfRow word
