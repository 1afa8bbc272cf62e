-- Printed operands read back.
use Rattle.m51_stmt.proofs
use proofs.Common.{◌≡◌, ℕ, ◌<◌, map, List, [], ◌∷◌, ◌++◌, Some, refl, arith, codes, name_of, OperandTree, Plain}
use Rattle.m51_isa.proofs.Distinct.{of_register}
use Rattle.m51_expr.specs.Symbol.{operator_of, prefix_word, relation_word, arithmetic_word}
use Rattle.m51_expr.specs.Words.{is_language_word}
use Rattle.m51_stmt.specs.Statement.{A, Ab, C, Dptr, APc, ADptr, AtDptr, R, AtR, Imm, NotBit}
use Rattle.m51_stmt.specs.Words.{register_number}
use Rattle.m51_stmt.specs.Operands.{register, pointer, sum}
use Rattle.m51_stmt.specs.Printing.{register_word, operand_text}
use proofs.LineCuts.{Word, laid, AreCut, symbol}
use proofs.WordCuts.{name_word, sign_word, name_cut, sign_cut, cuts}
use proofs.PrintedTrees.{IsTree, expr_words, expr_said, expr_cut, expr_laid}
use proofs.ListWords.{IsPart, after_word, one_part}
use proofs.PrintedParts.{expr_part}
use Rattle.m51_expr.specs.declared.symbol.Symbol.TheVariants as symbols
use Rattle.m51_stmt.specs.Grammar as grammar

-- an operand that can be read: its register has a number, and its tree is one of an expression
abbrev pub IsOperand : OperandTree → Type 0
IsOperand (R n) = n < 8
IsOperand (AtR n) = n < 2
IsOperand (Imm e) = IsTree e
IsOperand (Plain e) = IsTree e
IsOperand (NotBit e) = IsTree e
IsOperand other = Unit {0}

abbrev sum_words : List ℕ → List Word → List Word
sum_words word rest = sign_word 0x40 ∷ name_word (codes "A") ∷ sign_word 0x2B ∷ name_word word ∷ rest

-- the words of an operand, before other words
abbrev pub operand_words : OperandTree → List Word → List Word
operand_words A rest = name_word (codes "A") ∷ rest
operand_words Ab rest = name_word (codes "AB") ∷ rest
operand_words C rest = name_word (codes "C") ∷ rest
operand_words Dptr rest = name_word (codes "DPTR") ∷ rest
operand_words APc rest = sum_words (codes "PC") rest
operand_words ADptr rest = sum_words (codes "DPTR") rest
operand_words AtDptr rest = sign_word 0x40 ∷ name_word (codes "DPTR") ∷ rest
operand_words (R n) rest = name_word (register_word n) ∷ rest
operand_words (AtR n) rest = sign_word 0x40 ∷ name_word (register_word n) ∷ rest
operand_words (Imm e) rest = sign_word 0x23 ∷ expr_words e rest
operand_words (Plain e) rest = expr_words e rest
operand_words (NotBit e) rest = sign_word 0x2F ∷ expr_words e rest

pub operand_laid : (o : OperandTree) (rest : List Word) → laid (operand_words o rest) ≡ operand_text o ++ laid rest
unfolding operand_text
operand_laid o rest = grind (arith, expr_laid)

pub register_written : (n : ℕ) → n < 8 → name_of (register_word n) ≡ Some (register_word n)
register_written n h = grind arith

pub operand_cut : (o : OperandTree) (rest : List Word) → IsOperand o → AreCut rest → AreCut (operand_words o rest)
operand_cut (R n) rest is more = (name_cut (register_written n is), more)
operand_cut (AtR n) rest is more = (sign_cut refl, (name_cut (register_written n (omega (arith, is))), more))
operand_cut o rest is more = search (cuts, expr_cut, more)

register_symbol : (n : ℕ) → n < 8 → symbol (name_word (register_word n)) ≡ symbols.Word (register_word n)
unfolding operator_of prefix_word relation_word arithmetic_word is_language_word
register_symbol n h = of_register (λ n. symbol (name_word (register_word n)) ≡ symbols.Word (register_word n)) refl refl
    refl refl refl refl refl refl n h

register_read : (n : ℕ) → n < 8 → register (register_word n) ≡ Some (R n)
unfolding register register_number
register_read n h = of_register (λ n. register (register_word n) ≡ Some (R n)) refl refl refl refl refl refl refl refl n
    h

pointer_read : (n : ℕ) → n < 2 → pointer (register_word n) ≡ Some (AtR n)
unfolding pointer
pointer_read n h = grind arith

pub operand_said : (o : OperandTree) → IsOperand o → grammar.IsOperand (map symbol (operand_words o [])) o
unfolding register pointer sum operator_of prefix_word relation_word arithmetic_word is_language_word
operand_said A is = grammar.Register {word = codes "A"} refl
operand_said Ab is = grammar.Register {word = codes "AB"} refl
operand_said C is = grammar.Register {word = codes "C"} refl
operand_said Dptr is = grammar.Register {word = codes "DPTR"} refl
operand_said APc is = grammar.Sum {word = codes "PC"} refl
operand_said ADptr is = grammar.Sum {word = codes "DPTR"} refl
operand_said AtDptr is = grammar.Pointer {word = codes "DPTR"} refl
operand_said (R n) is = rw (register_symbol n is) (grammar.Register (register_read n is))
operand_said (AtR n) is = rw (register_symbol n (omega (arith, is))) (grammar.Pointer (pointer_read n is))
operand_said (Imm e) is = grammar.Immediate (expr_said e is)
operand_said (Plain e) is = grammar.Address (expr_said e is)
operand_said (NotBit e) is = grammar.Inverted (expr_said e is)

pub operand_part : (o : OperandTree) → IsPart (λ rest. operand_words o rest)
operand_part (Plain e) = expr_part e
operand_part o = search (after_word, expr_part, one_part)
