use Rattle.std.proofs.Common.{◌≡◌, ℕ, List, [], ◌∷◌, rules}
use Rattle.m51_cells.specs.Name.{IsWritten}
use Rattle.m51_cases.specs.Sample.{number_public}
use Rattle.m51_module.specs.Validity.{IsValid}
use Rattle.m51_module.specs.declared.content.Fixup.{Fixup}
use Rattle.m51_module.specs.declared.content.Piece.{Piece}
use Rattle.m51_module.specs.declared.segment.Segment.{Segment}
use Rattle.m51_module.specs.declared.symbol.External.{External}
use Rattle.m51_module.specs.declared.symbol.Public.{Public}
use Rattle.m51_cases.proofs.SamplePublic.{public_alone}
use Rattle.m51_cases.proofs.sample.module_with.Goals as goal

with_parts : (name public : List ℕ) (segments : List Segment) (publics : List Public) (externals : List External)
    (pieces : List Piece) (fixups : List Fixup)
    → segments ≡ [] → publics ≡ number_public public ∷ [] → externals ≡ [] → pieces ≡ [] → fixups ≡ [] → IsWritten name
    → IsWritten public
    → IsValid
    (record {
      name = name;
      version = 1;
      segments = segments;
      publics = publics;
      externals = externals;
      pieces =
          pieces;
      fixups = fixups;
      banks = 1;
    })
with_parts name public segments publics externals pieces fixups a b d e f named written =
    rw (a, b, d, e, f) (public_alone name public named written)

pub make-requires : goal.make-requires
make-requires c =
    with_parts c.args.name c.args.public _ _ _ _ _ (search rules) (search rules) (search rules) (search rules)
    (search rules) c.requires.name c.requires.public
