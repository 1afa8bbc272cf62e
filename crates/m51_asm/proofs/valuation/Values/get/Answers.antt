use Rattle.m51_asm.proofs
use proofs.Common.{ap, ◌∙◌, ℕ, Vec, lookup, bytes_eq, value_in, known}
use proofs.DefinedLines.{lookup_value}
use proofs.valuation.Values.get.Goals as goal

pub returns : goal.returns
returns c =
    c.known.ensures
    ∙ ap known (c.copied.ensures ∙ c.get.ensures.value
    ∙ ap (λ n. lookup (λ (k : Vec ℕ). bytes_eq n k.items) c.self.inside.values.entries) c.bytes.ensures.bytes)
    ∙ lookup_value c.args.name.now c.self.inside.values.entries ∙ ap (λ v. value_in v c.args.name.now) c.self.view_is
