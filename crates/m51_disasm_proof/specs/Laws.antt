-- What is promised of disassemblies.
use Rattle.std.specs.Prelude.{◌≡◌, ℕ, suc, ◌+◌, true, List, [], ◌∷◌, ◌++◌, Ok, Some, slice_get}
use Rattle.m51_cells.specs.declared.kind.Kind.TheVariants as kind
use Rattle.m51_module.specs.declared.parts.LayoutParts.{LayoutParts}
use Rattle.m51_module.specs.declared.source.SourceFile.{SourceFile}
use Rattle.m51_module.specs.Sound.{IsSound as IsSoundLayout}
use Rattle.m51_isa.specs.declared.generics.Jump.{Jump}
use Rattle.m51_expr.specs.Meanings.{Meanings}
use Rattle.m51_stmt.specs.Lines.{any_line}
use Rattle.m51_text.specs.Answer.{Lines, text_of}
use Rattle.m51_asm.specs.Answer.{AnswerTree, IsAnswer}
use Rattle.m51_asm.specs.Assignment.{Assignment, absolute, opening}
use Rattle.m51_asm.specs.Fitting.{Fits}
use Rattle.m51_disasm.specs.declared.line.SourceLine.{SourceLine}
use Rattle.m51_disasm.specs.declared.part.CodeRange.{CodeRange}
use Rattle.m51_disasm.specs.declared.statement.Statement.{Statement}
use Rattle.m51_disasm.specs.Answer.{disassembled}
use Rattle.m51_disasm.specs.Lines.{is_among, targets, written_target, lines_of}
use Rattle.m51_disasm.specs.Parts.{code_ranges}
use Rattle.m51_disasm.specs.Statements.{statement_at, length_in, statements_of, statement_target}
use Rattle.m51_disasm.specs.Texts.{label_text, line_text}
use Rattle.m51_disasm_proof.specs.Meaning.{body_of, meant, read_from}
use Rattle.m51_disasm_proof.specs.Module.{module_of, GivesModule}
use Rattle.m51_disasm_proof.specs.Places.{Spot, spots_from, lines_before, IsSpot}
use Rattle.m51_disasm_proof.specs.Sound.{AreBytes, HaveSizes, IsSound}
use Rattle.m51_disasm_proof.specs.Standing.{StandsAt, IsNamed, GivesBytes, LineGives, AreFaultless, code_value}
use Rattle.m51_disasm_proof.specs.Standing.{bytes_at}

-- each line that can be written is read as the statement that is meant
abbrev pub LinesReadBack : Type 0
LinesReadBack = (l : SourceLine) → IsSound l → any_line (line_text l) ≡ Ok (meant l)

-- The text of each layout and image that have one, as a source without includes, is read as the lines that are meant:
-- no line has a fault of its form or its place.
abbrev pub TextsReadBack : Type 0
TextsReadBack =
    (l : LayoutParts) (image text : List ℕ) (source : SourceFile)
    → IsSoundLayout l → AreBytes image → disassembled l image ≡ Ok text → source.bytes ≡ text
    → text_of source [] ≡ Lines (read_from 1 (lines_of image (code_ranges l)))

-- Under each assignment that fits the lines of a disassembly, each of them is in its spot: CSEG begins a segment of
-- CODE at its base, and a statement is after the bytes of those before it.
abbrev pub LinesStand : Type 0
LinesStand =
    (l : LayoutParts) (image text : List ℕ)
    → IsSoundLayout l → AreBytes image → disassembled l image ≡ Ok text
    → (a : Assignment) → Fits (read_from 1 (lines_of image (code_ranges l))) a
    → (k : ℕ) (spot : Spot) → slice_get (spots_from 0 opening 0 (lines_of image (code_ranges l))) k ≡ Some spot
    → IsSpot a k spot

-- Under each assignment that fits them, the statement of a part is at its address, in the segment that the CSEG of the
-- part begins.
abbrev pub StatementsStand : Type 0
StatementsStand =
    (l : LayoutParts) (image text : List ℕ)
    → IsSoundLayout l → AreBytes image → disassembled l image ≡ Ok text
    → (a : Assignment) → Fits (read_from 1 (lines_of image (code_ranges l))) a
    → (before : List CodeRange) (part : CodeRange) (after : List CodeRange) → code_ranges l ≡ before ++ part ∷ after
    → (j : ℕ) (s : Statement) → slice_get (statements_of image part) j ≡ Some s
    → IsSpot a (lines_before image before + suc j)
    (record { segment = absolute (lines_before image before + 2) kind.Code part.base; address = s.at })

-- The statement at an address, where it is in an absolute segment of CODE and the label that it names has the value of
-- its address there, gives the bytes of the image at that address. So what is decoded is coded to the same bytes.
abbrev pub StatementsCodeBack : Type 0
StatementsCodeBack =
    (image : List ℕ) (end at : ℕ) → AreBytes image
    → (begin : List ℕ) (names : Meanings) (segment : ℕ) (form : Jump)
    → let s = statement_at image end at in
    let target = written_target begin (statement_target s) in
    StandsAt names segment at → IsNamed names segment target
    → GivesBytes names form (body_of target s.content) (bytes_at image at (length_in s.content))

-- Under each assignment that fits the lines of a disassembly, the label of a statement to which others of its part lead
-- has, at each line, the value of its address in the segment that the CSEG of the part begins.
abbrev pub LabelsStand : Type 0
LabelsStand =
    (l : LayoutParts) (image text : List ℕ)
    → IsSoundLayout l → AreBytes image → disassembled l image ≡ Ok text
    → (a : Assignment) → Fits (read_from 1 (lines_of image (code_ranges l))) a
    → (before : List CodeRange) (part : CodeRange) (after : List CodeRange) → code_ranges l ≡ before ++ part ∷ after
    → (j : ℕ) (s : Statement) → slice_get (statements_of image part) j ≡ Some s
    → is_among (targets (statements_of image part)) s.at ≡ true
    → (k : ℕ) → a.value k (label_text s.at) ≡ Some (code_value (lines_before image before + 2) s.at)

-- Under each assignment that fits them, the statement of a part gives the bytes of the image at its address: it has no
-- fault in its content, and nothing of it is left to the linker.
abbrev pub StatementsGiveBytes : Type 0
StatementsGiveBytes =
    (l : LayoutParts) (image text : List ℕ)
    → IsSoundLayout l → AreBytes image → disassembled l image ≡ Ok text
    → (a : Assignment) → Fits (read_from 1 (lines_of image (code_ranges l))) a
    → (before : List CodeRange) (part : CodeRange) (after : List CodeRange) → code_ranges l ≡ before ++ part ∷ after
    → (j : ℕ) (s : Statement) → slice_get (statements_of image part) j ≡ Some s
    → LineGives (read_from 1 (lines_of image (code_ranges l))) a image (lines_before image before + suc j) s.at
    (length_in s.content)

-- Under each assignment that fits them, no line has a fault by the lines above it, nor one in its content: there are no
-- more segments than a module may have, each is within its size, and no definition is repeated.
abbrev pub NoLineHasFault : Type 0
NoLineHasFault =
    (l : LayoutParts) (image text : List ℕ)
    → IsSoundLayout l → HaveSizes l → AreBytes image → disassembled l image ≡ Ok text
    → (a : Assignment) → Fits (read_from 1 (lines_of image (code_ranges l))) a
    → AreFaultless (read_from 1 (lines_of image (code_ranges l))) a

-- The answer for the text of each layout and image that have one, as a source without includes, is no fault but a
-- module: for each part in order its absolute segment of CODE, with exactly the bytes of the image in its pieces, and
-- no fixups, publics or externals.
abbrev pub ImagesAreAssembled : Type 0
ImagesAreAssembled =
    (l : LayoutParts) (image text : List ℕ) (source : SourceFile) (answer : AnswerTree)
    → IsSoundLayout l → HaveSizes l → AreBytes image → disassembled l image ≡ Ok text → source.bytes ≡ text
    → IsAnswer source [] answer → GivesModule (module_of source.name image (code_ranges l)) answer
