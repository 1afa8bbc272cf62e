-- The bytes and references of each line (this project's rules of content): those of its instruction, of DB or of DW.
use Rattle.std.specs.Prelude.{ℕ, suc, ◌+◌, List, [], ◌∷◌, ◌++◌, map, length, take, Option, Some, None, Ok, Err}
use Rattle.m51_isa.specs.declared.generics.Jump.{Jump}
use Rattle.m51_expr.specs.Operand.{ItemTree}
use Rattle.m51_expr.specs.Meanings.{Meanings}
use Rattle.m51_encode.specs.declared.coding.Coded.{Coded}
use Rattle.m51_encode.specs.declared.item.Width.{Width}
use Rattle.m51_encode.specs.declared.item.Width.TheVariants.{Byte, Word}
use Rattle.m51_encode.specs.declared.outcome.OperandOutcome.{OperandOutcome}
use Rattle.m51_encode.specs.declared.outcome.OperandOutcome.TheVariants.{Faulty, Fixes, Stands}
use Rattle.m51_encode.specs.declared.reference.FieldValue.{FieldValue}
use Rattle.m51_encode.specs.declared.reference.FieldValue.TheVariants.{Linked}
use Rattle.m51_encode.specs.declared.reference.Reference.{Reference}
use Rattle.m51_encode.specs.Filling.{Answer}
use Rattle.m51_encode.specs.Coding.{coded, outcomes}
use Rattle.m51_encode.specs.Items.{item_field, item_bytes}
use Rattle.m51_stmt.specs.Statement.{BodyTree, Code, Db, Dw}
pub use Rattle.m51_emit.specs.declared.content.EmittedContent.{EmittedContent}

-- a reference, with the byte of the line where its field begins
abbrev pub ReferenceAt : Type 0
ReferenceAt = ℕ × Reference

abbrev pub nothing : EmittedContent
nothing = record { bytes = []; references = [] }

-- the outcome of an item
abbrev pub item_outcome : Answer (Option FieldValue) → OperandOutcome
item_outcome (Ok (Some (Linked reference))) = Fixes
item_outcome (Ok held) = Stands
item_outcome (Err e) = Faulty e.number

-- The outcomes of the operands and items of a line. A text of DW is read as a number, so no item of DW is a text.
abbrev pub outcomes_by : Meanings → Jump → BodyTree → List OperandOutcome
outcomes_by names jump (Code mnemonic operands) = outcomes names mnemonic operands jump
outcomes_by names jump (Db items) = map (λ item. item_outcome (item_field names Byte item)) items
outcomes_by names jump (Dw words) = map (λ word. item_outcome (item_field names Word word)) words
outcomes_by names jump body = []

-- the references by the byte where their fields begin
abbrev pub placed_from : ℕ → List (Option Reference) → List ReferenceAt
placed_from byte [] = []
placed_from byte (Some reference ∷ more) = (byte, reference) ∷ placed_from (suc byte) more
placed_from byte (None ∷ more) = placed_from (suc byte) more

-- what an instruction gives; nothing where an operand has a fault
abbrev pub coded_content : Answer Coded → EmittedContent
coded_content (Ok c) = record { bytes = take c.code.len c.code.bytes; references = placed_from 0 c.references }
coded_content (Err e) = nothing

-- the reference of the field of an item, if it has one
abbrev pub references_in : Option FieldValue → List ReferenceAt
references_in (Some (Linked reference)) = (0, reference) ∷ []
references_in held = []

-- what an item gives that has this in its field; nothing where it has a fault
abbrev pub item_given : Width → ItemTree → Answer (Option FieldValue) → EmittedContent
item_given width item (Ok held) = record { bytes = item_bytes width item held; references = references_in held }
item_given width item (Err e) = nothing

-- what an item of DB or DW gives
abbrev pub item_content : Meanings → Width → ItemTree → EmittedContent
item_content names width item = item_given width item (item_field names width item)

-- a reference `bytes` bytes further on
abbrev pub later : ℕ → ReferenceAt → ReferenceAt
later bytes r = (bytes + r.0, r.1)

-- content after other content
abbrev pub followed_by : EmittedContent → EmittedContent → EmittedContent
followed_by one two = record {
  bytes = one.bytes ++ two.bytes;
  references = one.references ++ map (later (length one.bytes)) two.references;
}

abbrev pub joined : List EmittedContent → EmittedContent
joined [] = nothing
joined (one ∷ more) = followed_by one (joined more)

-- the bytes and references of a line
abbrev pub content_by : Meanings → Jump → BodyTree → EmittedContent
content_by names jump (Code mnemonic operands) = coded_content (coded names mnemonic operands jump)
content_by names jump (Db items) = joined (map (item_content names Byte) items)
content_by names jump (Dw words) = joined (map (item_content names Word) words)
content_by names jump body = nothing
