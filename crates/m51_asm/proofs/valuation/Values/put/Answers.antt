use Rattle.m51_asm.proofs
use proofs.Common.{◌≡◌, cond, ap, ◌∙◌, bytes_eq, value_in, valuation_of}
use proofs.DefinedLines.{put_value}
use proofs.valuation.Values.put.Goals as goal

pub returns : goal.returns
returns c =
    let entries = c.self.inside.values.entries in
    let key_is : c.in_ok-key.key.items ≡ c.args.name.now = c.in_ok-key.ensures.items ∙ c.bytes.ensures.bytes in
    λ other. ap (λ es. value_in (valuation_of es) other) c.in_ok-insert.ensures.entries
    ∙ put_value entries c.in_ok-key.key c.args.value other
    ∙ ap (λ n. cond (bytes_eq other n) c.args.value (value_in (valuation_of entries) other)) key_is
    ∙ ap (λ v. cond (bytes_eq other c.args.name.now) c.args.value (value_in v other)) c.self.view_is
