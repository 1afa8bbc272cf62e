-- Bytes that are all FFH.
use Rattle.std.proofs.Common.{◌≡◌, ℕ, List, replicate, arith}
use Rattle.std.proofs.lemmas.Grind.{common_steps}
use Rattle.m51_module.specs.Image.{IsErased}

-- copies of FFH
pub erased : (count : ℕ) (bytes : List ℕ) → bytes ≡ replicate count 0xFF → IsErased count bytes
erased count bytes e = grind (arith, common_steps)
