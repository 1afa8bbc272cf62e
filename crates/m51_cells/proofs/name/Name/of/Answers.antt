use Rattle.std.proofs.Common.{rules, arith, ◌≡◌, length}
use Rattle.m51_cells.proofs.Padding.{one_more, padded_text}
use Rattle.m51_cells.proofs.name.Name.of.Goals as goal

pub loop-index-preserved : goal.loop-index-preserved
loop-index-preserved c =
    let i = c.loop-index.index in
    let h = c.loop-index.invariant in
    record {
      short = h.short;
      bytes = one_more c.args.text.now i c.in_upper_case.result c.loop-index.bytes
          (search (rules, c.loop-index-test.true)) h.short (search (rules, c.in_upper_case.ensures)) h.bytes;
    }

pub invariant_of-result : goal.invariant_of-result
invariant_of-result c =
    let h = c.loop-index.invariant in
    let done : c.loop-index.index ≡ length c.args.text.now = omega arith in
    padded_text c.args.text.now c.loop-index.bytes h.short (rw done at h.bytes)
