-- A copy has the parts of the module, so it is valid.
use Rattle.std.proofs.Common.{◌≡◌, rules, subst}
use Rattle.m51_module.specs.Validity.{IsValid}
use Rattle.m51_module.specs.declared.parts.ModuleParts.{ModuleParts}
use Rattle.m51_module.proofs.module.Module.copy.Goals as goal

same_parts : (m n : ModuleParts) → m.name ≡ n.name → m.version ≡ n.version → m.segments ≡ n.segments
    → m.publics ≡ n.publics → m.externals ≡ n.externals → m.pieces ≡ n.pieces → m.fixups ≡ n.fixups → m.banks ≡ n.banks
    → m ≡ n
same_parts m n a v s p e q f b = λ i. record {
  name = a i;
  version = v i;
  segments = s i;
  publics = p i;
  externals = e i;
  pieces = q i;
  fixups = f i;
  banks = b i;
}

pub make-requires : goal.make-requires
make-requires c =
    subst IsValid
    (same_parts c.args.self.now _ (search rules) (search rules) (search rules) (search rules) (search rules)
    (search rules) (search rules) (search rules)) c.segments.ensures.valid
