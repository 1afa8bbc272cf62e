-- The grammar of lines: the statement that a line writes, or its fault.
use Rattle.std.specs.Prelude.{ℕ, ◌==◌, ◌||◌, ◌&&◌, Bool, true, false, nat_lt, if◌then◌else◌, List, [], ◌∷◌, length}
use Rattle.std.specs.Prelude.{drop}
use Rattle.std.specs.Prelude.{Option, Some, None, Result, Ok, Err, slice_index, option_map, option_and_then, codes, map}
use Rattle.std.specs.Str.{bytes_eq}
use Rattle.m51_cells.specs.declared.fault.TheConstants.{NO_INSTRUCTION, BAD_FORM}
use Rattle.m51_cells.specs.declared.limits.TheConstants.{MOST_LINE_BYTES}
use Rattle.m51_lex.specs.declared.fault.TheConstants.{LONG_LINE}
use Rattle.m51_lex.specs.declared.token.Token.{Token}
use Rattle.m51_lex.specs.Tokens.{tokens_at}
use Rattle.m51_isa.specs.Mnemonics.{is_mnemonic}
use Rattle.m51_expr.specs.Words.{is_reserved}
use Rattle.m51_expr.specs.declared.symbol.Symbol.{Symbol}
use Rattle.m51_expr.specs.declared.symbol.Symbol.TheVariants as symbol
use Rattle.m51_expr.specs.Symbol.{symbol_of}
use Rattle.m51_stmt.specs.declared.lack.Want.TheVariants as want
use Rattle.m51_stmt.specs.declared.definitions.DefinitionWord.{DefinitionWord}
use Rattle.m51_stmt.specs.declared.definitions.DefinitionWord.TheVariants.{Address}
use Rattle.m51_stmt.specs.declared.directives.Directive.{Directive}
use Rattle.m51_stmt.specs.Statement.{BodyTree, Empty, StmtTree}
use Rattle.m51_stmt.specs.Answer.{and_then, or_fault}
use Rattle.m51_stmt.specs.Words.{word_of, is_word, is_reserved_word, first_is}
use Rattle.m51_stmt.specs.Lack.{lacks}
use Rattle.m51_stmt.specs.Operands.{instruction}
use Rattle.m51_stmt.specs.Definitions.{definition_word, definition_form, definition_lacks}
use Rattle.m51_stmt.specs.Directives.{directive_of, directive_form, directive_fault, lacking}
use Rattle.m51_stmt.specs.Control.{control}

-- the instruction or the directive that a word begins
abbrev pub spoken : List ℕ → List Symbol → Option BodyTree
spoken word rest =
    if is_mnemonic word then instruction word rest
    else option_and_then (λ d. directive_form d rest) (directive_of word)

-- the definition that a name begins, which is not reserved and has no label before it
abbrev pub defined : Bool → List ℕ → List Symbol → Option BodyTree
defined labelled name (symbol.Word word ∷ rest) =
    if labelled || is_reserved name then None
    else option_and_then (λ d. definition_form d name rest) (definition_word word)
defined labelled name other = None

-- the statement after the label: nothing, a definition, an instruction or a directive
abbrev pub said : Bool → List Symbol → Option BodyTree
said labelled [] = Some Empty
said labelled (symbol.Name name ∷ rest) = defined labelled name rest
said labelled (symbol.Word word ∷ rest) = spoken word rest
said labelled other = None

-- a statement of its label, if it has one, and of what it says
abbrev pub with_label : Option (List ℕ) → BodyTree → StmtTree
with_label label body = record { label = label; body = body }

-- what a name begins: a label, where a colon follows it, or a definition
abbrev pub named_line : List ℕ → List Symbol → Option StmtTree
named_line name (symbol.Colon ∷ rest) =
    if is_reserved name then None else option_map (with_label (Some name)) (said true rest)
named_line name rest = option_map (with_label None) (defined false name rest)

-- the statement that the symbols of a line write, if they have no syntax error
abbrev pub statement : List Symbol → Option StmtTree
statement (symbol.Name name ∷ rest) = named_line name rest
statement symbols = option_map (with_label None) (said false symbols)

-- the word of definitions that comes first
abbrev pub definition_in : List Symbol → Option DefinitionWord
definition_in [] = None
definition_in (s ∷ rest) = option_and_then definition_word (word_of s)

-- the word EXTRN
abbrev pub is_extrn : Symbol → Bool
is_extrn (symbol.Word word) = bytes_eq word (codes "EXTRN")
is_extrn s = false

-- a kind after EXTRN is no word of definitions
abbrev pub beside_extrn : Option DefinitionWord → Option DefinitionWord
beside_extrn (Some (Address k)) = None
beside_extrn d = d

-- the word of definitions after a first word, if there is one
abbrev pub definition_after : Symbol → List Symbol → Option DefinitionWord
definition_after first rest = if is_extrn first then beside_extrn (definition_in rest) else definition_in rest

-- the fault of a directive, and fault 11 where the word begins none
abbrev pub directive_or_none : List Symbol → Option Directive → ℕ
directive_or_none rest (Some d) = directive_fault d rest
directive_or_none rest None = NO_INSTRUCTION

-- the fault of an instruction or a directive with a syntax error; fault 11 where the word begins none
abbrev pub spoken_fault : List Symbol → Option (List ℕ) → ℕ
spoken_fault rest (Some word) =
    if is_mnemonic word then lacking (lacks want.First want.Operand rest) NO_INSTRUCTION
    else directive_or_none rest (directive_of word)
spoken_fault rest None = NO_INSTRUCTION

-- The fault of a definition, where a word of definitions follows the first word: 12 where that is reserved; then 6;
-- then 12. Or else the fault of what the first word begins.
abbrev pub begun_fault : Symbol → List Symbol → Option DefinitionWord → ℕ
begun_fault first rest (Some d) =
    if is_reserved_word first then BAD_FORM else lacking (definition_lacks d (drop 1 rest)) BAD_FORM
begun_fault first rest None = spoken_fault rest (word_of first)

-- the fault of what follows the label; fault 11 where no word begins it
abbrev pub fault : List Symbol → ℕ
fault [] = NO_INSTRUCTION
fault (first ∷ rest) =
    if is_word first then begun_fault first rest (definition_after first rest) else NO_INSTRUCTION

-- a colon
abbrev pub is_colon : Symbol → Bool
is_colon symbol.Colon = true
is_colon s = false

-- the fault of symbols with a syntax error: 12 where a reserved word is the label
abbrev pub statement_fault : List Symbol → ℕ
statement_fault [] = NO_INSTRUCTION
statement_fault (first ∷ rest) =
    if is_word first && first_is is_colon rest
    then (if is_reserved_word first then BAD_FORM else fault (drop 1 rest))
    else fault (first ∷ rest)

-- what the symbols of a line say
abbrev pub read : List Symbol → Result StmtTree ℕ
read symbols = or_fault (statement_fault symbols) (statement symbols)

-- what a control line says, from the bytes after its $
abbrev pub control_line : List ℕ → Result StmtTree ℕ
control_line rest = and_then (control rest) (λ body. Ok (with_label None body))

-- the symbols that the tokens of a line are
abbrev pub symbols_of : List ℕ → List Token → List Symbol
symbols_of line tokens = map (symbol_of line) tokens

-- what a line of tokens says, or the first fault of its tokens
abbrev pub token_line : List ℕ → Result StmtTree ℕ
token_line line = and_then (tokens_at 0 0 line) (λ tokens. read (symbols_of line tokens))

-- the statement of a line of any length: a first $ begins a control, and a first % is fault 12
unfoldable pub any_line : List ℕ → Result StmtTree ℕ
any_line line =
    let first = slice_index line 0 in
    if first == slice_index (codes "$") 0 then control_line (drop 1 line)
    else if first == slice_index (codes "%") 0 then Err BAD_FORM
    else token_line line

-- the statement of a line, which is not too long
abbrev pub statement_of : List ℕ → Result StmtTree ℕ
statement_of line = if nat_lt MOST_LINE_BYTES (length line) then Err LONG_LINE else any_line line
