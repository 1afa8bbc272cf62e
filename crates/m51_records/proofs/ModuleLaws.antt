-- A module that is read is spelled so and valid, and a valid module that is spelled is read, whatever follows.
use Rattle.std.proofs.Common.{arith, ◌≡◌, ℕ, List, [], ◌∷◌, ◌++◌, Ok, refl, subst, length, sym, ap, ◌∙◌, length-append}
use Rattle.m51_module.specs.declared.content.Fixup.{Fixup}
use Rattle.m51_module.specs.declared.content.Piece.{Piece}
use Rattle.m51_module.specs.declared.parts.ModuleParts.{ModuleParts}
use Rattle.m51_module.specs.declared.segment.Segment.{Segment}
use Rattle.m51_module.specs.declared.symbol.External.{External}
use Rattle.m51_module.specs.declared.symbol.Public.{Public}
use Rattle.m51_module.specs.Validity.{IsValid}
use Rattle.m51_records.specs.Spelling.{bytes_of}
use Rattle.m51_records.specs.Reading.{module_at, read_of}
use Rattle.m51_records.proofs.FieldLaws.{IsBytes}
use Rattle.m51_records.proofs.EntryLaws.{header_agrees, end_agrees, segment_agrees, segments_are, segments_in_turn}
use Rattle.m51_records.proofs.EntryLaws.{external_agrees, externals_few, externals_are, externals_in_turn}
use Rattle.m51_records.proofs.EntryLaws.{public_agrees, publics_are, publics_in_turn}
use Rattle.m51_records.proofs.ContentLaws.{piece_agrees, pieces_are, pieces_in_turn, fixup_agrees, fixups_few}
use Rattle.m51_records.proofs.ContentLaws.{fixups_are, fixups_in_turn, seated}
use Rattle.m51_records.proofs.SectionLaws.{Chain, last_record, then_record, then_records}
use Rattle.m51_records.proofs.Tools.{ok_is}

-- header, segments, externals, publics, pieces, fixups, banks
abbrev Values : Type 0
Values = (List ℕ × ℕ) × (List Segment × (List External × (List Public × (List Piece × (List Fixup × ℕ)))))

abbrev module_of : Values → ModuleParts
module_of x = record {
  name = x.0.0;
  version = x.0.1;
  segments = x.1.0;
  externals = x.1.1.0;
  publics = x.1.1.1.0;
  pieces = x.1.1.1.1.0;
  fixups = x.1.1.1.1.1.0;
  banks = x.1.1.1.1.1.1;
}

abbrev values_of : ModuleParts → Values
values_of m = ((m.name, m.version), (m.segments, (m.externals, (m.publics, (m.pieces, (m.fixups, m.banks))))))

abbrev module_chain : Chain (0x02 ∷ 0x0E ∷ 0x18 ∷ 0x16 ∷ 0x06 ∷ 0x08 ∷ 0x04 ∷ []) ModuleParts Values
module_chain = then_record 0x02 header_agrees (λ header.
    then_records 0x0E (segment_agrees header.1) (refl, (refl, (refl, (refl, (refl, tt))))) (λ segments.
    then_records 0x18 external_agrees (refl, (refl, (refl, (refl, tt)))) (λ externals.
    then_records 0x16 (public_agrees segments) (refl, (refl, (refl, tt))) (λ publics.
    then_records 0x06 (piece_agrees segments) (refl, (refl, tt)) (λ pieces.
    then_records 0x08 (fixup_agrees segments externals pieces) (refl, tt) (λ fixups.
    last_record 0x04 (end_agrees header.0)))))))

-- what is shown of a module that was read
pub record IsRead (bytes : List ℕ) (m : ModuleParts) (rest : List ℕ) : Type 0 where
  pub valid : IsValid m
  pub bytes_are : bytes ≡ bytes_of m ++ rest

-- what is read is valid and spelled so
pub module_takes : (total number : ℕ) (bytes : List ℕ) (y : ModuleParts × List ℕ) → IsBytes bytes
    → module_at total number bytes ≡ Ok y → IsRead bytes y.0 y.1
unfolding module_at bytes_of
module_takes total number bytes y fits e =
    let t = module_chain.takes module_of total number bytes y fits e in
    let x = t.0 in
    let g = t.3 in
    let segments = segments_are x.0.1 x.1.0 g.1.0 in
    let externals = externals_are x.1.1.0 g.1.1.0 in
    let publics = publics_are x.1.0 x.1.1.1.0 g.1.1.1.0 in
    let pieces = pieces_are x.1.0 x.1.1.1.1.0 g.1.1.1.1.0 in
    let fixups = fixups_are x.1.0 x.1.1.0 x.1.1.1.1.0 x.1.1.1.1.1.0 g.1.1.1.1.1.0 in
    subst (λ m. IsRead bytes m y.1) t.1
    (record {
      valid = record {
        name = g.0.name;
        version = g.0.version;
        few_segments = segments.few;
        few_externals = externals_few x.1.1.0 g.1.1.0;
        few_fixups = fixups_few x.1.0 x.1.1.0 x.1.1.1.1.0 x.1.1.1.1.1.0 g.1.1.1.1.1.0;
        segments = segments.each;
        marks = segments.marks;
        segment_names = segments.names;
        publics = publics.each;
        public_names = publics.pairs;
        externals = externals.each;
        external_names = externals.pairs;
        pieces = pieces.each;
        piece_order = pieces.pairs;
        fixups = grind arith;
        fixup_order = fixups.pairs;
        banks = g.1.1.1.1.1.1.first;
        few_banks = g.1.1.1.1.1.1.few;
      };
      bytes_are = t.2;
    })

-- what is spelled is read, whatever follows
pub module_again : (m : ModuleParts) (rest : List ℕ) (total number : ℕ) → IsValid m
    → module_at total number (bytes_of m ++ rest) ≡ Ok (m, rest)
unfolding module_at bytes_of
module_again m rest total number v =
    let segments = segments_in_turn m.version m.segments (grind arith) in
    let externals = externals_in_turn m.externals v.few_externals (grind arith) in
    let publics = publics_in_turn m.segments m.publics (grind arith) in
    let pieces = pieces_in_turn m.segments m.pieces (grind arith) in
    let fixups = fixups_in_turn m.segments m.externals m.pieces m.fixups v.few_fixups (grind (arith, seated)) in
    module_chain.again module_of total number (values_of m) rest (grind arith)

-- No spelling begins another, and a file that begins with the bytes of a module is read as it.

-- no spelling begins another
pub one_front : (m n : ModuleParts) (x y : List ℕ) → IsValid m → IsValid n → bytes_of m ++ x ≡ bytes_of n ++ y → (m ≡ n)
    × (x ≡ y)
one_front m n x y v w e =
    grind (arith, ok_is (m, x) (n, y) (sym (module_again m x 0 0 v) ∙ ap (module_at 0 0) e ∙ module_again n y 0 0 w))

-- the same for a file that begins with the bytes of a module
pub read_again : (m : ModuleParts) (bytes rest : List ℕ) → IsValid m → bytes ≡ bytes_of m ++ rest → read_of bytes
    ≡ Ok (m, length (bytes_of m))
read_again m bytes rest v is = grind (arith, module_again, length-append)
