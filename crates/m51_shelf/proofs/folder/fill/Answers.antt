use Rattle.std.proofs.Common.{◌≡◌, ℕ, ◌+◌, ◌-◌, ◌≤◌, List, ◌++◌, rules, arith, length, take, drop, slice_range, sym, ap}
use Rattle.std.proofs.Common.{◌∙◌, subst, le_refl, drop_at, length-take-le}
use Rattle.std.proofs.lemmas.Slice.{take-put_mid_below}
use Rattle.std.specs.Io.KnownBytes.{Consumes}
use Rattle.std.proofs.KnownBytes.{Consumes-trans}
use borrow.Rule.Slice.PartMut.{put_mid, post_of}
use lib.Seq.{take-add, take-append-le}
use Rattle.m51_shelf.proofs.folder.fill.Goals as goal

-- a prefix that stays, and the part after it
front_and_part : (a n : ℕ) (old new : List ℕ) → take a new ≡ take a old → take a old ++ slice_range new a (a + n)
    ≡ take (a + n) new
front_and_part a n old new front =
    let same : (a + n) - a ≡ n = omega arith in
    ap (λ l. l ++ slice_range new a (a + n)) (sym front) ∙ ap (λ m. take a new ++ take m (drop a new)) same
    ∙ sym (take-add a n new)

-- the part that was put into the middle
part_put : (a k n : ℕ) (xs ys : List ℕ) → a ≤ length xs → n ≤ length ys → slice_range (put_mid a k xs ys) a (a + n)
    ≡ take n ys
part_put a k n xs ys within fits =
    let same : (a + n) - a ≡ n = omega arith in
    let after = post_of a k xs in
    ap (take ((a + n) - a)) (drop_at (take a xs) (ys ++ after) a (length-take-le a xs within))
    ∙ ap (λ m. take m (ys ++ after)) same ∙ take-append-le n ys after fits

pub loop-done-preserved-in-Ok : goal.loop-done-preserved-in-Ok
loop-done-preserved-in-Ok g c =
    let done = c.loop-done.done in
    let count = c.in-Ok.count in
    let into = c.loop-done.into in
    let room = length into - done in
    let within = c.loop-done.invariant.within in
    let part = part_put done room count into c.read.new.buf within c.in-Ok.ensures.bound.0 in
    let joined =
    front_and_part done count into (put_mid done room into c.read.new.buf)
    (take-put_mid_below _ _ _ _ _ (le_refl _) within) in
    record {
      room = search rules;
      within = search rules;
      tries = search rules;
      got = subst (Consumes _ _) (ap (λ l. take done into ++ l) (sym part) ∙ joined)
          (Consumes-trans _ _ _ _ _ c.loop-done.invariant.got c.in-Ok.ensures.bytes.0);
    }
