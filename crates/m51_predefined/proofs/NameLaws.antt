-- The names of the assembler and the registers of the machine.
use Rattle.std.proofs.Common.{◌≡◌, ℕ, ◌-◌, ◌%◌, ◌<◌, Bool, true, false, ◌==◌, ◌||◌, cond, length, List, [], ◌∷◌, map}
use Rattle.std.proofs.Common.{Some, None, suc, refl, sym, subst, ap, ◌∙◌, arith}
use Rattle.std.specs.Prelude.{Option, option_map}
use Rattle.std.specs.List.{list_all, slice_index_or}
use Rattle.std.specs.Str.{bytes_eq}
use Rattle.std.proofs.lemmas.Bool.{and_parts, eqb-true, false≢true}
use Rattle.std.proofs.lemmas.Option.{same_Some}
use Rattle.m51_cells.specs.declared.kind.Kind.TheVariants as kind
use Rattle.m51_expr.specs.Value.{plain}
use Rattle.m51_expr.specs.declared.value.Value.{Value}
use Rattle.m51_sfr.specs.Registers.{Row, address_in, bits, has_register, is_one_of, registers, table}
use Rattle.m51_predefined.specs.Predefined.{register_or_bit, predefined_of}
use Rattle.m51_predefined.specs.Laws.{NamesAreRegisters}
use Rattle.m51_predefined.proofs.RowLaws.{rows_are_read}

found_step : (b : Bool) (m a : ℕ) (test : ℕ → Bool) (rest : Option ℕ) → test m ≡ true → (rest ≡ Some a → test a ≡ true)
    → cond b (Some m) rest ≡ Some a → test a ≡ true
found_step true m a test rest passes later e = subst (λ n. test n ≡ true) (cc e) passes
found_step false m a test rest passes later e = later e

-- the address that a search finds passes what all addresses of the table pass
found_passes : (test : ℕ → Bool) (rows : List Row) (name : List ℕ) (a : ℕ)
    → list_all (λ (r : Row). test r.address) rows ≡ true → address_in rows name ≡ Some a → test a ≡ true
found_passes test [] name a h e = absurd (cc e)
found_passes test (r ∷ rows) name a h e =
    let parts = and_parts (test r.address) (list_all (λ (r : Row). test r.address) rows) h in
    found_step (bytes_eq r.name name) r.address a test (address_in rows name) parts.0
    (λ f. found_passes test rows name a parts.1 f) e

registers_stand : list_all (λ (r : Row). has_register r.address) registers ≡ true
unfolding registers table has_register
registers_stand = refl

abbrev stands_below : ℕ → Bool
stands_below a = has_register (a - a % 8)

bits_stand : list_all (λ (r : Row). stands_below r.address) bits ≡ true
unfolding bits table has_register
bits_stand = refl

number_same : (a b : ℕ) → Some (plain a kind.Direct) ≡ Some (plain b kind.Direct) → a ≡ b
number_same a b e = ap (λ (v : Value). v.number) (same_Some _ _ e)

bit_same : (a b : ℕ) → Some (plain a kind.Bits) ≡ Some (plain b kind.Bits) → a ≡ b
bit_same a b e = ap (λ (v : Value). v.number) (same_Some _ _ e)

other_class : kind.Bits ≡ kind.Direct → ⊥
other_class e = absurd (cc e)

never_bit : (o : Option ℕ) (a : ℕ) → option_map (λ address. plain address kind.Bits) o ≡ Some (plain a kind.Direct) → ⊥
never_bit None a e = absurd (cc e)
never_bit (Some b) a e = absurd (other_class (ap (λ (v : Value). v.class) (same_Some _ _ e)))

register_step : (o p : Option ℕ) (a : ℕ) → register_or_bit o p ≡ Some (plain a kind.Direct) → o ≡ Some a
register_step (Some b) p a e = ap (λ n. Some n) (number_same b a e)
register_step None p a e = absurd (never_bit p a e)

bit_step : (o p : Option ℕ) (a : ℕ) → register_or_bit o p ≡ Some (plain a kind.Bits) → p ≡ Some a
bit_step (Some b) p a e = absurd (other_class (sym (ap (λ (v : Value). v.class) (same_Some _ _ e))))
bit_step None (Some b) a e = ap (λ n. Some n) (bit_same b a e)
bit_step None None a e = absurd (cc e)

-- where an address is in a list
record Standing (rows : List Row) (a : ℕ) : Type 0 where
  index : ℕ
  within : index < length rows
  is : (d : Row) → (slice_index_or rows index d).address ≡ a

later : (r : Row) (rows : List Row) (a : ℕ) → Standing rows a → Standing (r ∷ rows) a
later r rows a s = record { index = suc s.index; within = omega (arith, s.within); is = λ d. s.is d }

here : (r : Row) (rows : List Row) (a : ℕ) → a ≡ r.address → Standing (r ∷ rows) a
here r rows a e = record { index = 0; within = omega arith; is = λ d. sym e }

standing_step : (r : Row) (rows : List Row) (a : ℕ) (b : Bool) → (a == r.address) ≡ b
    → (is_one_of (map (λ (r : Row). r.address) rows) a ≡ true → Standing rows a)
    → (b || is_one_of (map (λ (r : Row). r.address) rows) a) ≡ true → Standing (r ∷ rows) a
standing_step r rows a true e rest h = here r rows a (eqb-true a r.address e)
standing_step r rows a false e rest h = later r rows a (rest h)

standing : (rows : List Row) (a : ℕ) → is_one_of (map (λ (r : Row). r.address) rows) a ≡ true → Standing rows a
standing [] a h = absurd (false≢true h)
standing (r ∷ rows) a h = standing_step r rows a (a == r.address) refl (λ g. standing rows a g) h

same_registers : (a : ℕ) → has_register a ≡ is_one_of (map (λ (r : Row). r.address) registers) a
unfolding registers table has_register
same_registers a = refl

empty_row : Row
empty_row = record { name = []; address = 0 }

named : (a : ℕ) → has_register a ≡ true → (name : List ℕ) × predefined_of name ≡ Some (plain a kind.Direct)
named a h =
    let s = standing registers a (sym (same_registers a) ∙ h) in (
      (slice_index_or registers s.index empty_row).name,
      rows_are_read.register s.index empty_row s.within
          ∙ ap (λ n. Some (plain n kind.Direct)) (s.is empty_row),
    )

pub names_are_registers : NamesAreRegisters
names_are_registers = record {
  register = λ name a e. found_passes has_register registers name a registers_stand
      (register_step (address_in registers name) (address_in bits name) a e);
  bit = λ name a e. found_passes stands_below bits name a bits_stand
      (bit_step (address_in registers name) (address_in bits name) a e);
  named = λ a h. named a h;
}
