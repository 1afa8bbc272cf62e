-- Computed fields lead to their targets.
use Rattle.std.proofs.Common.{◌≡◌, ℕ, ◌+◌, ◌*◌, ◌/◌, ◌%◌, ◌<◌, true, false, Some, arith}
use Rattle.std.proofs.lemmas.Bool.Decides.{nat_tests}
use Rattle.m51_expr.specs.Value.{counted}
use Rattle.m51_isa.specs.declared.slot.Field.TheVariants as field
use Rattle.m51_encode.specs.declared.reference.FieldValue.TheVariants.{Number}
use Rattle.m51_encode.specs.Reference.{reference_of}
use Rattle.m51_encode.specs.Bases.{is_current, stands_absolute, is_linked}
use Rattle.m51_encode.specs.FieldValues.{is_taken, distance, is_near, same_block, rel_of, addr11_of, relative_of}
use Rattle.m51_encode.specs.FieldValues.{block_of, field_of}
use Rattle.m51_encode.specs.FieldLaws.{reached_by, RelativesLead, BlocksLead}
use Rattle.m51_cells.proofs.Passing.{guarded}
use Rattle.m51_encode.proofs.TakenFields.{computed, number_is}

byte_leads : (next target : ℕ) → next < 65536 → target < 65536 → is_near (distance next target) ≡ true
    → reached_by next (distance next target % 256) ≡ target
byte_leads next target from to near = grind (arith, nat_tests)

block_leads : (next target : ℕ) → same_block target next ≡ true → next / 2048 * 2048 + target % 2048 ≡ target
block_leads next target same = grind (arith, nat_tests)

pub relatives_lead : RelativesLead
unfolding field_of
relatives_lead names next n v from to h =
    let taken = guarded (is_taken names field.Rel v) (relative_of names next v) (Number n) h in
    let byte = computed (is_current names v.base) (is_linked names v.base) (stands_absolute names)
    (rel_of next (counted v)) (reference_of names field.Rel v) n taken.1 in
    let near = guarded (is_near (distance next (counted v))) (Some (Number (distance next (counted v) % 256)))
    (Number n) byte in
    let is : distance next (counted v) % 256 ≡ n =
    number_is (is_near (distance next (counted v))) (distance next (counted v) % 256) n byte in
    rw (← is) (byte_leads next (counted v) from to near.0)

pub blocks_lead : BlocksLead
unfolding field_of
blocks_lead names next n v h =
    let taken = guarded (is_taken names field.Addr11 v) (block_of names next v) (Number n) h in
    let address = computed false (is_linked names v.base) (stands_absolute names) (addr11_of next (counted v))
    (reference_of names field.Addr11 v) n taken.1 in
    let near = guarded (same_block (counted v) next) (Some (Number (counted v % 2048))) (Number n) address in
    let is : counted v % 2048 ≡ n = number_is (same_block (counted v) next) (counted v % 2048) n address in
    rw (← is) (block_leads next (counted v) near.0)
