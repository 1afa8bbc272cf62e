-- What the names of the tables are, and mean.
use Rattle.std.proofs.Common.{◌≡◌, ℕ, Bool, true, false, not, ◌&&◌, ◌==◌, cond, List, ◌++◌, map, Some, None, refl, sym}
use Rattle.std.proofs.Common.{ap, ◌∙◌}
use Rattle.std.specs.Prelude.{Option, option_map, is_some}
use Rattle.std.specs.Char.{to_ascii_uppercase}
use Rattle.std.specs.List.{list_all, slice_index_or}
use Rattle.std.specs.Str.{bytes_eq}
use Rattle.std.proofs.lemmas.Bool.{and_parts, eqb-true, false≢true, not-true}
use Rattle.std.proofs.lemmas.List.Folds.{list_all-append}
use Rattle.std.proofs.lemmas.List.Sums.{AllPass-from_list_all}
use Rattle.std.proofs.lemmas.Slice.Eq.{bytes_eq-Decides}
use Rattle.m51_cells.specs.Name.{is_name, IsWritten}
use Rattle.m51_cells.specs.declared.kind.Kind.TheVariants as kind
use Rattle.m51_expr.specs.Value.{plain}
use Rattle.m51_expr.specs.Words.{is_reserved, is_language_word}
use Rattle.m51_sfr.specs.Registers.{Row, address_in, bits, registers, table}
use Rattle.m51_predefined.specs.Predefined.{register_or_bit, predefined_of}
use Rattle.m51_predefined.specs.Laws.{IsFree, NamesAreFree, RowsAreRead, ReservedStandForNothing}
use Rattle.m51_predefined.proofs.Rows.{absent}

-- the name is in upper case, and a source can write it
abbrev is_written : List ℕ → Bool
is_written name = is_name name && bytes_eq (map to_ascii_uppercase name) name

all_written : list_all (λ (r : Row). is_written r.name) (registers ++ bits) ≡ true
unfolding registers bits table
all_written = refl

none_reserved : list_all (λ (r : Row). not (is_reserved r.name)) (registers ++ bits) ≡ true
unfolding registers bits table is_reserved is_language_word
none_reserved = refl

written_step : (b : Bool) (upper name : List ℕ) → b ≡ true → upper ≡ name → cond b (Some upper) None ≡ Some name
written_step true upper name h e = ap (λ n. Some n) e
written_step false upper name h e = absurd (false≢true h)

written : (name : List ℕ) → is_written name ≡ true → IsWritten name
written name h =
    let parts = and_parts (is_name name) (bytes_eq (map to_ascii_uppercase name) name) h in
    written_step (is_name name) (map to_ascii_uppercase name) name parts.0
    ((bytes_eq-Decides (map to_ascii_uppercase name) name).0 parts.1)

free_name : (name : List ℕ) → is_written name ≡ true → not (is_reserved name) ≡ true → IsFree name
free_name name w f = record { written = written name w; free = not-true (is_reserved name) f }

pub names_are_free : NamesAreFree
names_are_free = λ k d within.
    free_name (slice_index_or (registers ++ bits) k d).name
    (AllPass-from_list_all (λ (r : Row). is_written r.name) (registers ++ bits) all_written k d within)
    (AllPass-from_list_all (λ (r : Row). not (is_reserved r.name)) (registers ++ bits) none_reserved k d within)

none_step : (o p : Option ℕ) → o ≡ None → p ≡ None → register_or_bit o p ≡ None
none_step None None h e = refl
none_step None (Some n) h e = absurd (cc e)
none_step (Some n) p h e = absurd (cc h)

pub reserved_stand_for_nothing : ReservedStandForNothing
reserved_stand_for_nothing word w =
    let parts = and_parts (list_all (λ (r : Row). not (is_reserved r.name)) registers)
    (list_all (λ (r : Row). not (is_reserved r.name)) bits)
    (sym (list_all-append (λ (r : Row). not (is_reserved r.name)) registers bits) ∙ none_reserved) in
    none_step (address_in registers word) (address_in bits word) (absent is_reserved registers word parts.0 w)
    (absent is_reserved bits word parts.1 w)

-- the address is this one
abbrev is_address : Option ℕ → ℕ → Bool
is_address None n = false
is_address (Some m) n = m == n

address_is : (o : Option ℕ) (n : ℕ) → is_address o n ≡ true → o ≡ Some n
address_is None n h = absurd (false≢true h)
address_is (Some m) n h = ap (λ k. Some k) (eqb-true m n h)

none_is : (o : Option ℕ) → not (is_some o) ≡ true → o ≡ None
none_is None h = refl
none_is (Some n) h = absurd (false≢true h)

bit_step : (o p : Option ℕ) (n : ℕ) → o ≡ None → p ≡ Some n → register_or_bit o p ≡ Some (plain n kind.Bits)
bit_step None p n h e = ap (λ p. option_map (λ address. plain address kind.Bits) p) e
bit_step (Some m) p n h e = absurd (cc h)

registers_read : list_all (λ (r : Row). is_address (address_in registers r.name) r.address) registers ≡ true
unfolding registers table
registers_read = refl

bits_read : list_all (λ (r : Row). not (is_some (address_in registers r.name))
    && is_address (address_in bits r.name) r.address) bits ≡ true
unfolding registers bits table
bits_read = refl

register_row : (r : Row) → is_address (address_in registers r.name) r.address ≡ true
    → predefined_of r.name ≡ Some (plain r.address kind.Direct)
register_row r h = ap (λ o. register_or_bit o (address_in bits r.name))
    (address_is (address_in registers r.name) r.address h)

bit_row : (r : Row) → (not (is_some (address_in registers r.name)) && is_address (address_in bits r.name) r.address)
    ≡ true → predefined_of r.name ≡ Some (plain r.address kind.Bits)
bit_row r h =
    let parts = and_parts (not (is_some (address_in registers r.name))) (is_address (address_in bits r.name) r.address)
    h in
    bit_step (address_in registers r.name) (address_in bits r.name) r.address
    (none_is (address_in registers r.name) parts.0) (address_is (address_in bits r.name) r.address parts.1)

pub rows_are_read : RowsAreRead
rows_are_read = record {
  register = λ k d within. register_row (slice_index_or registers k d)
      (AllPass-from_list_all (λ (r : Row). is_address (address_in registers r.name) r.address) registers registers_read
      k d within);
  bit = λ k d within. bit_row (slice_index_or bits k d)
      (AllPass-from_list_all
      (λ (r : Row). not (is_some (address_in registers r.name)) && is_address (address_in bits r.name) r.address) bits
      bits_read k d within);
}
