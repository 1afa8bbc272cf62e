use Rattle.std.proofs.Common.{◌+◌, refl, sym, subst, arith}
use Rattle.m51_inputs.proofs.SortedFiles.{IsSortedTo, sorted_all, sorted_more}
use Rattle.m51_inputs.proofs.sorting.sort.Goals as goal

pub loop-word-preserved : goal.loop-word-preserved
loop-word-preserved c =
    subst (IsSortedTo (c.loop-word.word + 1) c.args.files.now c.args.contents.now) (sym c.in_ok-put_file.ensures)
    (sorted_more c.args.files.now c.args.contents.now c.loop-word.word c.index-files-word.result
    c.index-contents-word.result _ c.loop-word.sorted
    (omega arith) (omega arith) c.index-files-word.is c.index-contents-word.is refl c.loop-word.invariant)

pub returns : goal.returns
returns c = sorted_all c.args.files.now c.args.contents.now c.loop-word.word c.loop-word.sorted (omega arith) c.requires
    c.loop-word.invariant
