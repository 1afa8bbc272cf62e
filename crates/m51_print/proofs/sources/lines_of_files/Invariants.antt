use Rattle.std.proofs.Common.{◌≡◌, ◌∷◌, map, take}
use Rattle.std.specs.Str.Lines.{lines}
use Rattle.m51_print.specs.Lent.{file_texts}
use Rattle.m51_print.proofs.sources.lines_of_files.Given as goal

abbrev pub invariant-loop-include : goal.invariant-loop-include
invariant-loop-include l = map file_texts l.files.items ≡ lines l.source.bytes
    ∷ map (λ file. lines file.bytes) (take l.include-index l.includes)
