-- What a statement of a disassembly depends on: its address, the labels that it names, and the bytes of the image
-- there.
use Rattle.std.specs.Prelude.{◌≡◌, ℕ, true, List, [], length, map, Some, slice_index}
use Rattle.std.specs.List.{AllByRecursion, range_with_len}
use Rattle.m51_cells.specs.declared.kind.Base.TheVariants as base
use Rattle.m51_cells.specs.declared.kind.Kind.TheVariants as kind
use Rattle.m51_isa.specs.declared.generics.Jump.{Jump}
use Rattle.m51_expr.specs.declared.value.Value.{Value}
use Rattle.m51_expr.specs.Meanings.{Meanings}
use Rattle.m51_expr.specs.Value.{whole}
use Rattle.m51_encode.specs.declared.outcome.OperandOutcome.TheVariants.{Stands}
use Rattle.m51_stmt.specs.Statement.{BodyTree}
use Rattle.m51_emit.specs.declared.content.EmittedContent.{EmittedContent}
use Rattle.m51_emit.specs.Content.{outcomes_by, content_by}
use Rattle.m51_text.specs.Answer.{LineTree}
use Rattle.m51_asm.specs.Assignment.{Assignment}
use Rattle.m51_asm.specs.ContentFaults.{line_outcomes, content_faults}
use Rattle.m51_asm.specs.FirstFault.{AreFree}
use Rattle.m51_asm.specs.Pieces.{content_at}
use Rattle.m51_disasm.specs.declared.line.Target.{Target}
use Rattle.m51_disasm.specs.declared.line.Target.TheVariants as target
use Rattle.m51_disasm.specs.Texts.{label_text}

-- an address of a segment of CODE, as a value
abbrev pub code_value : ℕ → ℕ → Value
code_value segment address = whole address kind.Code (base.Segment segment)

-- the statement is at this address of an absolute segment of CODE
pub record StandsAt (names : Meanings) (segment address : ℕ) : Type 0 where
  pub here : names.here ≡ code_value segment address
  pub absolute : names.fixed segment ≡ true

-- a target that is written as a label is the name of its address in the segment
abbrev pub IsNamed : Meanings → ℕ → Target → Type 0
IsNamed names segment (target.Label address) = names.value (label_text address) ≡ Some (code_value segment address)
IsNamed names segment other = Unit {0}

-- `count` bytes of an image, from an address on
abbrev pub bytes_at : List ℕ → ℕ → ℕ → List ℕ
bytes_at image address count = map (slice_index image) (range_with_len address count)

-- bytes without a reference
abbrev pub only_bytes : List ℕ → EmittedContent
only_bytes bytes = record { bytes = bytes; references = [] }

-- A line gives these bytes: no operand or item of it has a fault, and none is left to the linker.
pub record GivesBytes (names : Meanings) (form : Jump) (body : BodyTree) (bytes : List ℕ) : Type 0 where
  pub content : content_by names form body ≡ only_bytes bytes
  pub stand : AllByRecursion (λ outcome. outcome ≡ Stands) (outcomes_by names form body)

-- Line k gives `count` bytes of an image, from an address on: no operand or item of it has a fault, and none is left to
-- the linker.
pub record LineGives (lines : List LineTree) (a : Assignment) (image : List ℕ) (k address count : ℕ) : Type 0 where
  pub content : content_at lines a k ≡ only_bytes (bytes_at image address count)
  pub stand : AllByRecursion (λ outcome. outcome ≡ Stands) (line_outcomes lines a k)

-- no line has a fault by the lines above it, nor one in its content
pub record AreFaultless (lines : List LineTree) (a : Assignment) : Type 0 where
  pub placed : AreFree lines a (length lines)
  pub content : content_faults lines a ≡ []
