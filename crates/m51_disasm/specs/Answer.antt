-- What a disassembly answers.
use Rattle.std.specs.Prelude.{ℕ, nat_lt, if◌then◌else◌, List, length, Option, Some, None, Result, Ok, Err}
use Rattle.m51_cells.specs.declared.limits.TheConstants.{MOST_MODULE_SEGMENTS, MOST_SOURCE_LINES}
use Rattle.m51_module.specs.declared.linked.Quantity.{Quantity}
use Rattle.m51_module.specs.declared.linked.Quantity.TheVariants.{Parts, Lines}
use Rattle.m51_module.specs.declared.parts.LayoutParts.{LayoutParts}
use Rattle.m51_disasm.specs.declared.error.DisError.{DisError}
use Rattle.m51_disasm.specs.declared.error.DisError.TheVariants.{Limit, Memory}
use Rattle.m51_disasm.specs.declared.line.SourceLine.{SourceLine}
use Rattle.m51_disasm.specs.declared.part.CodeRange.{CodeRange}
use Rattle.m51_disasm.specs.Lines.{lines_of}
use Rattle.m51_disasm.specs.Parts.{code_ranges}
use Rattle.m51_disasm.specs.Texts.{text_of_lines}

-- what the limit is of; out of memory is no refusal
abbrev pub exceeded_quantity : DisError → Option Quantity
exceeded_quantity (Limit what) = Some what
exceeded_quantity Memory = None

-- the text of lines, of which an assembler takes 65,535
unfoldable pub text_within : List SourceLine → Result (List ℕ) Quantity
text_within lines = if nat_lt MOST_SOURCE_LINES (length lines) then Err Lines else Ok (text_of_lines lines)

-- the text of parts, each of which is a segment of a module, which has at most 254
unfoldable pub text_by : List ℕ → List CodeRange → Result (List ℕ) Quantity
text_by image parts =
    if nat_lt MOST_MODULE_SEGMENTS (length parts) then Err Parts else text_within (lines_of image parts)

-- the text of a layout and its image, or the limit that it passes
unfoldable pub disassembled : LayoutParts → List ℕ → Result (List ℕ) Quantity
disassembled l image = text_by image (code_ranges l)
