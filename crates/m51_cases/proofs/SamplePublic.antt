-- A module of one public is valid.
use Rattle.std.proofs.Common.{◌≡◌, ◌≢◌, inl, ℕ, true, List, [], refl, arith, All}
use Rattle.m51_cells.specs.Name.{IsWritten}
use Rattle.m51_module.specs.declared.segment.Segment.{Segment}
use Rattle.m51_module.specs.declared.symbol.External.{External}
use Rattle.m51_module.specs.declared.symbol.Public.{Public}
use Rattle.m51_cases.specs.Sample.{number_public, public_module}
use Rattle.m51_module.specs.Validity.{IsValid, IsSegmentValid, IsPublicValid, IsPieceValid, IsFixupValid, FieldBefore}
use Rattle.m51_module.specs.Validity.{Differ, LiesBefore}
use Rattle.m51_cells.proofs.Small.{all_one, pairs_none}
use Rattle.m51_cases.proofs.SampleModule.{pairs_one}

-- what is asked of each item holds in the empty list
pub all_none : {X : Type 0} (P : X → Type 0) → All P []
all_none P k d below = absurd (omega (arith, below))

-- a module without segments, whose one public is a number
pub public_alone : (name public : List ℕ) → IsWritten name → IsWritten public → IsValid (public_module name public)
public_alone name public named written = record {
  name = named;
  version = inl refl;
  few_segments = omega arith;
  few_externals = omega arith;
  few_fixups = omega arith;
  segments = all_none IsSegmentValid;
  marks = all_none (λ (s : Segment). s.argument ≡ true → 1 ≡ 2);
  segment_names = pairs_none (λ (s t : Segment). Differ s.name t.name);
  publics = all_one (IsPublicValid []) (number_public public) (record { name = written; base = tt });
  public_names = pairs_one (λ (p q : Public). p.name ≢ q.name) (number_public public);
  externals = all_none (λ (e : External). IsWritten e.name);
  external_names = pairs_none (λ (e f : External). e.name ≢ f.name);
  pieces = all_none (IsPieceValid []);
  piece_order = pairs_none LiesBefore;
  fixups = all_none (IsFixupValid [] [] []);
  fixup_order = pairs_none FieldBefore;
  banks = refl;
  few_banks = omega arith;
}
