-- The numbers of the faults of a source, which is printed as E and its number. docs/LANGUAGE.md has the same table.
use Rattle.std.specs.Prelude.{◌≡◌}
use Rattle.m51_lex.specs.declared.fault.TheConstants.{BAD_CHARACTER, UNCLOSED_TEXT, BAD_NUMBER, LONG_NAME, LONG_LINE}
use Rattle.m51_cells.specs.declared.fault.TheConstants.{NO_EXPRESSION, UNKNOWN_NAME, BASE_NOT_ALLOWED}
use Rattle.m51_cells.specs.declared.fault.TheConstants.{DIVISION_BY_ZERO, NO_BIT, NO_INSTRUCTION, BAD_FORM}
use Rattle.m51_cells.specs.declared.fault.TheConstants.{DEFINED_TWICE, OUT_OF_RANGE, PAST_THE_END, MISPLACED_END}
use Rattle.m51_cells.specs.declared.fault.TheConstants.{BAD_INCLUDE, BAD_BYTE, TOO_MANY}

-- E1 to E19
pub record FaultsHaveNumbers : Type 0 where
  -- a character that begins no token
  pub e1 : BAD_CHARACTER ≡ 1
  -- a text that is not closed
  pub e2 : UNCLOSED_TEXT ≡ 2
  -- a number over 16 bits, or with a character that is no digit of its base
  pub e3 : BAD_NUMBER ≡ 3
  -- a name over 31 characters
  pub e4 : LONG_NAME ≡ 4
  -- a line over 255 bytes
  pub e5 : LONG_LINE ≡ 5
  -- no expression or operand where one is needed
  pub e6 : NO_EXPRESSION ≡ 6
  -- a name without a value
  pub e7 : UNKNOWN_NAME ≡ 7
  -- a base that is not allowed
  pub e8 : BASE_NOT_ALLOWED ≡ 8
  -- division by 0
  pub e9 : DIVISION_BY_ZERO ≡ 9
  -- a bit number over 7, or a byte without bits
  pub e10 : NO_BIT ≡ 10
  -- no such instruction, or no such operands
  pub e11 : NO_INSTRUCTION ≡ 11
  -- a directive or control with a syntax error or in a wrong segment, or a reserved word that is defined
  pub e12 : BAD_FORM ≡ 12
  -- a name that is defined twice
  pub e13 : DEFINED_TWICE ≡ 13
  -- an operand out of its range or class
  pub e14 : OUT_OF_RANGE ≡ 14
  -- an address past the end of the memory
  pub e15 : PAST_THE_END ≡ 15
  -- no END, END in an include, or text after END
  pub e16 : MISPLACED_END ≡ 16
  -- an include that is not given, or that is nested over 8 deep
  pub e17 : BAD_INCLUDE ≡ 17
  -- a byte that is no tab, line end or 20H to 7EH
  pub e18 : BAD_BYTE ≡ 18
  -- too many segments, externals, fixups or lines
  pub e19 : TOO_MANY ≡ 19
