-- Directives, and what each requires after its word.
use Rattle.std.specs.Prelude.{ℕ, Bool, true, false, if◌then◌else◌, List, [], ◌∷◌, codes, Option, Some, None, option_map}
use Rattle.std.specs.Str.{bytes_eq}
use Rattle.m51_cells.specs.declared.kind.Kind.{Kind}
use Rattle.m51_cells.specs.declared.kind.Kind.TheVariants as kind
use Rattle.m51_cells.specs.declared.fault.TheConstants.{NO_EXPRESSION, BAD_FORM}
use Rattle.m51_expr.specs.declared.symbol.Symbol.{Symbol}
use Rattle.m51_expr.specs.declared.symbol.Symbol.TheVariants as symbol
use Rattle.m51_stmt.specs.declared.lack.Want.TheVariants as want
use Rattle.m51_stmt.specs.declared.directives.Directive.{Directive}
use Rattle.m51_stmt.specs.declared.directives.Directive.TheVariants as word
use Rattle.m51_stmt.specs.Statement.{BodyTree, End, Db, Dw, Ds, Dbit, Org, Using, Rseg, Select, Public, Extrn}
use Rattle.m51_stmt.specs.Statement.{ModuleName}
use Rattle.m51_stmt.specs.Lack.{lacks}
use Rattle.m51_stmt.specs.Lists.{list_of, item, value, expression, name_alone}
use Rattle.m51_stmt.specs.Externs.{externs, outside, defines_reserved}

-- CSEG, DSEG, XSEG, BSEG and ISEG
unfoldable pub select_of : List ℕ → Option Directive
select_of w =
    if bytes_eq w (codes "CSEG") then Some (word.Select kind.Code)
    else if bytes_eq w (codes "XSEG") then Some (word.Select kind.Xdata)
    else if bytes_eq w (codes "DSEG") then Some (word.Select kind.Direct)
    else if bytes_eq w (codes "ISEG") then Some (word.Select kind.Idata)
    else if bytes_eq w (codes "BSEG") then Some (word.Select kind.Bits)
    else None

-- the directive that a word begins
unfoldable pub directive_of : List ℕ → Option Directive
directive_of w =
    if bytes_eq w (codes "RSEG") then Some word.Rseg
    else if bytes_eq w (codes "USING") then Some word.Using
    else if bytes_eq w (codes "DS") then Some word.Ds
    else if bytes_eq w (codes "DBIT") then Some word.Dbit
    else if bytes_eq w (codes "ORG") then Some word.Org
    else if bytes_eq w (codes "DB") then Some word.Db
    else if bytes_eq w (codes "DW") then Some word.Dw
    else if bytes_eq w (codes "PUBLIC") then Some word.Public
    else if bytes_eq w (codes "EXTRN") then Some word.Extrn
    else if bytes_eq w (codes "NAME") then Some word.Name
    else if bytes_eq w (codes "END") then Some word.End
    else select_of w

-- the word AT
abbrev pub is_at : Symbol → Bool
is_at (symbol.Word w) = bytes_eq w (codes "AT")
is_at s = false

-- CSEG, DSEG, XSEG, BSEG and ISEG have no operand, or AT and an expression
abbrev pub select : Kind → List Symbol → Option BodyTree
select k [] = Some (Select k None)
select k (s ∷ rest) = if is_at s then option_map (λ e. Select k (Some e)) (expression rest) else None

-- END has no operand
abbrev pub end_form : List Symbol → Option BodyTree
end_form [] = Some End
end_form more = None

-- the statement of a directive, from the symbols after its word
abbrev pub directive_form : Directive → List Symbol → Option BodyTree
directive_form word.Using symbols = option_map Using (expression symbols)
directive_form word.Ds symbols = option_map Ds (expression symbols)
directive_form word.Dbit symbols = option_map Dbit (expression symbols)
directive_form word.Org symbols = option_map Org (expression symbols)
directive_form word.Db symbols = option_map Db (list_of item symbols)
directive_form word.Dw symbols = option_map Dw (list_of value symbols)
directive_form (word.Select k) symbols = select k symbols
directive_form word.Rseg symbols = option_map Rseg (name_alone symbols)
directive_form word.Name symbols = option_map ModuleName (name_alone symbols)
directive_form word.Public symbols = option_map Public (list_of name_alone symbols)
directive_form word.Extrn symbols = option_map Extrn (externs symbols)
directive_form word.End symbols = end_form symbols

-- something that CSEG, DSEG, XSEG, BSEG or ISEG requires is missing: after AT an expression is required
abbrev pub select_lacks : List Symbol → Bool
select_lacks [] = false
select_lacks (s ∷ rest) =
    if is_at s then lacks want.Expression want.Nothing rest else lacks want.Nothing want.Names (s ∷ rest)

-- something that the directive requires after its word is missing
abbrev pub directive_lacks : Directive → List Symbol → Bool
directive_lacks word.Using symbols = lacks want.Expression want.Nothing symbols
directive_lacks word.Ds symbols = lacks want.Expression want.Nothing symbols
directive_lacks word.Dbit symbols = lacks want.Expression want.Nothing symbols
directive_lacks word.Org symbols = lacks want.Expression want.Nothing symbols
directive_lacks word.Db symbols = lacks want.Item want.Item symbols
directive_lacks word.Dw symbols = lacks want.Expression want.Expression symbols
directive_lacks (word.Select k) symbols = select_lacks symbols
directive_lacks other symbols = lacks want.Nothing want.Names symbols

-- fault 6 if something is missing, or else this fault
abbrev pub lacking : Bool → ℕ → ℕ
lacking true k = NO_EXPRESSION
lacking false k = k

-- EXTRN defines a reserved word
abbrev pub reserves : Directive → List Symbol → Bool
reserves word.Extrn symbols = defines_reserved outside symbols
reserves other symbols = false

-- the fault of a directive with a syntax error
abbrev pub directive_fault : Directive → List Symbol → ℕ
directive_fault d symbols =
    if reserves d symbols then BAD_FORM else lacking (directive_lacks d symbols) BAD_FORM
