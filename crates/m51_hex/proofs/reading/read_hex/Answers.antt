use Rattle.std.proofs.Common.{sym, arith}
use Rattle.std.proofs.lemmas.Result.{err_from_is_err_and}
use Rattle.m51_hex.specs.Memory.{memory_in}
use Rattle.m51_hex.proofs.LineSteps.{begins, refused}
use Rattle.m51_hex.proofs.StoredBytes.{memory_in-blank}
use Rattle.m51_hex.proofs.reading.read_hex.Goals as goal

pub loop-text-init : goal.loop-text-init
loop-text-init c = record {
  whole = c.in_ok-image.ensures.len;
  passed = omega arith;
  told = begins (memory_in c.in_ok-image.image) c.args.bytes.now
      (memory_in-blank c.in_ok-image.image c.in_ok-image.ensures);
}

pub returns-in_err-read_line : goal.returns-in_err-read_line
returns-in_err-read_line c =
    let p = err_from_is_err_and c.from_residual-in_err-read_line.result c.from_residual-in_err-read_line.ensures.1 in
    rw (p.1, p.2)
    (refused c.in_err-read_line.field-0.0 _ _ _ _ _ _ c.in-Some.ensures.lines c.in_err-read_line.ensures.gives
    c.loop-text.invariant.told)

pub loop-text-preserved : goal.loop-text-preserved
loop-text-preserved c = record {
  whole = c.in_ok-read_line.ensures.whole;
  passed = omega (arith, c.in-Some.ensures.shorter, c.loop-text.invariant.passed);
  told = rw (c.in-Some.ensures.lines, c.in_ok-read_line.ensures.gives, c.in-Data.is) at c.loop-text.invariant.told;
}

pub returns-in-EndOfFile : goal.returns-in-EndOfFile
returns-in-EndOfFile c =
    sym (rw (c.in-Some.ensures.lines, c.in_ok-read_line.ensures.gives, c.in-EndOfFile.is) at c.loop-text.invariant.told)
