use Rattle.m51_chain.proofs.Common.{IMAGE_LEN, hex_outcome, length, refl, subst, ◌≡◌}
use Rattle.m51_chain.specs.FlatRuns.{IsScripted, HexRead, HexRefused, IsFlatWork}
use Rattle.m51_hex.specs.Reading.{memory_from, image_refusal}
use Rattle.m51_chain.proofs.Following.{comes_weaker, refused_comes}
use Rattle.m51_chain.proofs.flat.run_file.Goals as goal

pub returns-in-Ok : goal.returns-in-Ok
returns-in-Ok c =
    comes_weaker (IsFlatWork c.args.job.now c.args.file.now _) (IsScripted c.args.job.now c.in-Ok.image _)
    c.run_image.result
    (λ o it. HexRead c.in-Ok.image (subst (λ xs. length xs ≡ IMAGE_LEN) c.bytes.ensures.list c.bytes.ensures.whole)
    (rw c.as_slice.ensures at c.in-Ok.ensures) it)
    c.run_image.ensures

pub returns-in_ok-refuse_hex-in-Err : goal.returns-in_ok-refuse_hex-in-Err
returns-in_ok-refuse_hex-in-Err c =
    refused_comes (IsFlatWork c.args.job.now c.args.file.now _) (image_refusal c.in-Err.error)
    (hex_outcome c.args.job.now.file) _ (memory_from c.args.file.now)
    (rw c.as_str.ensures at c.in_ok-refuse_hex-in-Err.ensures) (rw c.as_slice.ensures at c.in-Err.ensures)
    (λ why is. HexRefused why is refl)
