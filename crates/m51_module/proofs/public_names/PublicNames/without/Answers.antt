use Rattle.std.proofs.Common.{◌≡◌, Some, ap, sym, ◌∙◌}
use Rattle.std.specs.Prelude.{option_map}
use Rattle.m51_module.proofs.NotedNames.{names_less}
use Rattle.m51_module.proofs.public_names.PublicNames.without.Goals as goal

pub returns-in-Some : goal.returns-in-Some
returns-in-Some c = λ modules others beside are.
    let known : c.args.self ≡ Some c.in-Some.names.keys = sym c.self.view_is
    ∙ ap (option_map (λ s. s.keys)) c.in-Some.is in
    names_less (λ s. s.keys) modules others c.args.member.now c.args.self _ c.publics.result.now c.lacking.result
    (known ∙ sym (ap (λ n. Some n.keys) c.in-Some.names-is)) c.lacking.ensures
    c.publics.ensures.list beside are
