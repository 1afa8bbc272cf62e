-- The form of a generic JMP or CALL.
use Rattle.std.specs.Prelude.{ℕ, ◌+◌, ◌%◌, Bool, true, false, not, ◌&&◌, if◌then◌else◌, Ok, Err}
use Rattle.m51_cells.specs.declared.kind.Base.{Base}
use Rattle.m51_cells.specs.declared.kind.Base.TheVariants.{None}
use Rattle.m51_expr.specs.declared.value.Part.{Part}
use Rattle.m51_expr.specs.declared.value.Part.TheVariants.{High, Low}
use Rattle.m51_expr.specs.declared.value.Value.{Value}
use Rattle.m51_expr.specs.Value.{Valued, counted}
use Rattle.m51_expr.specs.Meanings.{Meanings}
use Rattle.m51_isa.specs.declared.generics.Jump.{Jump}
use Rattle.m51_isa.specs.declared.generics.Jump.TheVariants.{Short, Block, Long}
use Rattle.m51_isa.specs.declared.generics.Verb.{Verb}
use Rattle.m51_isa.specs.declared.generics.Verb.TheVariants.{Jmp, Call}
use Rattle.m51_encode.specs.Bases.{is_current, stands_absolute}
use Rattle.m51_encode.specs.FieldValues.{distance, is_near, same_block}

-- the address after a statement of `length` bytes
abbrev pub address_after : Meanings → ℕ → ℕ
address_after names length = (names.here.number + length) % 65536

-- HIGH or LOW of a base
abbrev pub is_byte : Part → Bool
is_byte High = true
is_byte Low = true
is_byte part = false

-- the current segment, or none where that is absolute
abbrev pub is_own : Meanings → Base → Bool
is_own names None = stands_absolute names
is_own names base = is_current names base

-- JMP has a short form, within -128 to 127 of what is after it
abbrev pub is_short : Verb → ℕ → ℕ → Bool
is_short Jmp next target = is_near (distance next target)
is_short Call next target = false

-- the first form that reaches a target in the current segment; that of a block is chosen only in an absolute one
abbrev pub shortest : Meanings → Verb → ℕ → ℕ → Jump
shortest names verb next target =
    if is_short verb next target then Short
    else if stands_absolute names && same_block target next then Block
    else Long

-- the form of a generic jump or call to a target, which may have a fault
unfoldable pub jump_form_of : Meanings → Verb → Valued Value → Jump
jump_form_of names verb (Ok v) =
    if is_own names v.base && not (is_byte v.part) then shortest names verb (address_after names 2) (counted v)
    else Long
jump_form_of names verb (Err e) = Long
