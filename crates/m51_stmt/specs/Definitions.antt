-- Definitions: `name SEGMENT kind [type] [OVERLAYABLE]` and `name word expr`.
use Rattle.std.specs.Prelude.{ℕ, ◌&&◌, ◌||◌, not, Bool, true, false, if◌then◌else◌, List, [], ◌∷◌, codes, Option, Some}
use Rattle.std.specs.Prelude.{None, option_and_then, option_map}
use Rattle.std.specs.Str.{bytes_eq}
use Rattle.m51_cells.specs.declared.kind.Kind.{Kind}
use Rattle.m51_cells.specs.declared.kind.Reloc.{Reloc}
use Rattle.m51_cells.specs.declared.kind.Reloc.TheVariants as reloc
use Rattle.m51_cells.specs.Kinds.{allows, may_overlay}
use Rattle.m51_expr.specs.declared.symbol.Symbol.{Symbol}
use Rattle.m51_expr.specs.declared.symbol.Symbol.TheVariants as symbol
use Rattle.m51_stmt.specs.declared.lack.Want.TheVariants as want
use Rattle.m51_stmt.specs.declared.definitions.DefinitionWord.{DefinitionWord}
use Rattle.m51_stmt.specs.declared.definitions.DefinitionWord.TheVariants.{Segment, Equ, Set, Address}
use Rattle.m51_stmt.specs.Statement as body
use Rattle.m51_stmt.specs.Statement.{BodyTree}
use Rattle.m51_stmt.specs.Kinds.{kind_of, reloc_of}
use Rattle.m51_stmt.specs.Lack.{lacks}
use Rattle.m51_stmt.specs.Lists.{expression}

-- the definition that a word makes
unfoldable pub definition_word : List ℕ → Option DefinitionWord
definition_word word =
    if bytes_eq word (codes "SEGMENT") then Some Segment
    else if bytes_eq word (codes "EQU") then Some Equ
    else if bytes_eq word (codes "SET") then Some Set
    else option_map Address (kind_of word)

-- a segment of the kind may have the type, and be OVERLAYABLE if that is written
abbrev pub is_allowed : Kind → Reloc → Bool → Bool
is_allowed k r overlayable = allows k r && (not overlayable || may_overlay k r)

-- a segment of this kind and type, if that is allowed
abbrev pub segment_with : List ℕ → Bool → Kind → Reloc → Option BodyTree
segment_with name overlayable k r =
    if is_allowed k r overlayable then Some (body.Segment name k r overlayable) else None

-- the segment of this name by the words for its kind and its type, and whether OVERLAYABLE is written
abbrev pub segment_body : List ℕ → Option Kind → Option Reloc → Bool → Option BodyTree
segment_body name k r overlayable =
    option_and_then (λ kind. option_and_then (segment_with name overlayable kind) r) k

-- the word OVERLAYABLE
abbrev pub is_overlayable : List ℕ → Bool
is_overlayable word = bytes_eq word (codes "OVERLAYABLE")

-- kind [type] [OVERLAYABLE]; the type is UNIT if none is written
abbrev pub segment : List ℕ → List Symbol → Option BodyTree
segment name (symbol.Word kind ∷ []) = segment_body name (kind_of kind) (Some reloc.Unit) false
segment name (symbol.Word kind ∷ symbol.Word last ∷ []) =
    if is_overlayable last then segment_body name (kind_of kind) (Some reloc.Unit) true
    else segment_body name (kind_of kind) (reloc_of last) false
segment name (symbol.Word kind ∷ symbol.Word type ∷ symbol.Word last ∷ []) =
    if is_overlayable last then segment_body name (kind_of kind) (reloc_of type) true else None
segment name other = None

-- the definition of this name
abbrev pub definition_form : DefinitionWord → List ℕ → List Symbol → Option BodyTree
definition_form Segment name symbols = segment name symbols
definition_form Equ name symbols = option_map (body.Equ name) (expression symbols)
definition_form Set name symbols = option_map (body.Set name) (expression symbols)
definition_form (Address k) name symbols = option_map (body.Address name k) (expression symbols)

-- something that the definition requires after its word is missing
abbrev pub definition_lacks : DefinitionWord → List Symbol → Bool
definition_lacks Segment symbols = lacks want.Nothing want.Names symbols
definition_lacks d symbols = lacks want.Expression want.Nothing symbols
