use Rattle.m51_asm.proofs
use proofs.Common.{ap, ◌∙◌, ℕ, Vec, lookup, bytes_eq, first_in}
use proofs.DefinedLines.{lookup_is}
use proofs.names.TextNames.first.Goals as goal

pub returns : goal.returns
returns c =
    c.copied.ensures ∙ c.get.ensures.value
    ∙ ap (λ n. lookup (λ (k : Vec ℕ). bytes_eq n k.items) c.self.inside.names.entries) c.bytes.ensures.bytes
    ∙ lookup_is c.args.name.now c.self.inside.names.entries ∙ ap (λ v. first_in v c.args.name.now) c.self.view_is
