use Rattle.std.proofs.Common.{◌≡◌, Some, ap, sym, ◌∙◌}
use Rattle.std.specs.Prelude.{option_map}
use Rattle.m51_module.proofs.NotedNames.{names_more}
use Rattle.m51_module.proofs.public_names.PublicNames.with.Goals as goal

pub returns-in-Some : goal.returns-in-Some
returns-in-Some c = λ modules are.
    let known : c.args.self ≡ Some c.in-Some.names.keys = sym c.self.view_is
    ∙ ap (option_map (λ s. s.keys)) c.in-Some.is in
    names_more (λ s. s.keys) modules c.args.member.now c.args.self _ c.publics.result.now c.noted.result
    (known ∙ sym (ap (λ n. Some n.keys) c.in-Some.names-is)) c.noted.ensures c.publics.ensures.list are
