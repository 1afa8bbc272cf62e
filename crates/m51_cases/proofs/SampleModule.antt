-- A module of two segments, with a public, an external and two fixups, is valid.
use Rattle.std.proofs.Common.{◌≡◌, ◌≢◌, inr, ℕ, zero, suc, ◌+◌, ◌<◌, [], ◌∷◌, refl, sym, subst, arith, lit≤, All}
use Rattle.std.proofs.Common.{AllPairs}
use Rattle.m51_cells.specs.declared.kind.Base.TheVariants.{Segment as InSegment, External as OfExternal}
use Rattle.m51_module.specs.declared.parts.ModuleParts.{ModuleParts}
use Rattle.m51_module.specs.declared.segment.Segment.{Segment}
use Rattle.m51_module.specs.declared.symbol.External.{External}
use Rattle.m51_module.specs.declared.symbol.Public.{Public}
use Rattle.m51_cases.specs.Sample.{field, code_segment, data_segment, byte_public, byte_external, mov_piece}
use Rattle.m51_cases.specs.Sample.{sample_module}
use Rattle.m51_module.specs.Validity.{IsValid, IsSegmentValid, IsPublicValid, IsPieceValid, IsFixupValid, IsHeld}
use Rattle.m51_module.specs.Validity.{FieldBefore, BeforeIn, Differ, LiesBefore}
use Rattle.m51_cells.specs.Name.{IsWritten}
use Rattle.m51_cells.proofs.Small.{all_one}

all_two : {X : Type 0} (P : X → Type 0) (x y : X) → P x → P y → All P (x ∷ y ∷ [])
all_two P x y h k zero d below = h
all_two P x y h k (suc zero) d below = k
all_two P x y h k (suc (suc n)) d below = absurd (omega (arith, below))

pub pairs_one : {X : Type 0} (R : X → X → Type 0) (x : X) → AllPairs R (x ∷ [])
pairs_one R x i j d less below = absurd (omega (arith, less, below))

pairs_two : {X : Type 0} (R : X → X → Type 0) (x y : X) → R x y → AllPairs R (x ∷ y ∷ [])
pairs_two R x y h zero zero d less below = absurd (omega (arith, less))
pairs_two R x y h zero (suc zero) d less below = h
pairs_two R x y h zero (suc (suc j)) d less below = absurd (omega (arith, below))
pairs_two R x y h (suc i) j d less below = absurd (omega (arith, less, below))

-- the piece holds the bytes at 0 to 2
held : (offset : ℕ) → offset < 3 → IsHeld sample_module.pieces 1 offset
held offset low =
    record {
      piece = mov_piece;
      is = (0, omega arith, refl);
      same = refl;
      from = omega arith;
      below =
          omega (arith, low);
    }

code_valid : IsSegmentValid code_segment
code_valid = record {
  kind = λ e. cc;
  reloc = refl;
  size = omega arith;
  absolute = λ _. record { name = refl; some = omega arith; fits = omega arith };
  relocatable = λ ne. absurd (ne refl);
  overlay = λ e. absurd (cc e);
  argument = λ e. absurd (cc e);
}

data_valid : IsSegmentValid data_segment
data_valid = record {
  kind = λ e. cc;
  reloc = refl;
  size = omega arith;
  absolute = λ e. cc;
  relocatable = λ _. record { name = refl; base = refl };
  overlay = λ _. refl;
  argument = λ _. record { kind = refl; overlay = refl; name = refl };
}

public_valid : IsPublicValid sample_module.segments byte_public
public_valid = record { name = refl; base = (data_segment, refl, refl) }

piece_valid : IsPieceValid sample_module.segments mov_piece
piece_valid =
    record {
      some = omega arith;
      most = omega arith;
      segment = code_segment;
      is = refl;
      code = refl;
      inside =
          omega arith;
    }

external_field : IsFixupValid sample_module.segments sample_module.externals sample_module.pieces
    (field 1 (OfExternal 1))
external_field =
    record { bit = refl; target = (byte_external, refl); held = λ k low. held (1 + k) (omega (arith, low)) }

byte_field : IsFixupValid sample_module.segments sample_module.externals sample_module.pieces (field 2 (InSegment 2))
byte_field = record { bit = refl; target = (data_segment, refl); held = λ k low. held (2 + k) (omega (arith, low)) }

pub sample_valid : IsValid sample_module
sample_valid = record {
  name = refl;
  version = inr refl;
  few_segments = omega arith;
  few_externals = omega arith;
  few_fixups = omega arith;
  segments = all_two IsSegmentValid code_segment data_segment code_valid data_valid;
  marks = λ k d below e. refl;
  segment_names =
      pairs_two (λ (s t : Segment). Differ s.name t.name) code_segment data_segment (λ named. absurd (named refl));
  publics = all_one (IsPublicValid sample_module.segments) byte_public public_valid;
  public_names = pairs_one (λ (p q : Public). p.name ≢ q.name) byte_public;
  externals = all_one (λ (e : External). IsWritten e.name) byte_external refl;
  external_names = pairs_one (λ (e f : External). e.name ≢ f.name) byte_external;
  pieces = all_one (IsPieceValid sample_module.segments) mov_piece piece_valid;
  piece_order = pairs_one LiesBefore mov_piece;
  fixups = all_two (IsFixupValid sample_module.segments sample_module.externals sample_module.pieces)
      (field 1 (OfExternal 1)) (field 2 (InSegment 2)) external_field byte_field;
  fixup_order = pairs_two FieldBefore (field 1 (OfExternal 1)) (field 2 (InSegment 2)) (BeforeIn refl (lit≤ tt));
  banks = refl;
  few_banks = omega arith;
}

pub sample_is_valid : (made : ModuleParts) → made ≡ sample_module → IsValid made
sample_is_valid made is = subst IsValid (sym is) sample_valid
