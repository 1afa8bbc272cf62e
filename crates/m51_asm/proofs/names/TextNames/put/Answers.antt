use Rattle.m51_asm.proofs
use proofs.Common.{◌≡◌, ◌++◌, ◌∷◌, [], ap, ◌∙◌, None, first_in, entries_of}
use proofs.DefinedLines.{put_last}
use proofs.names.TextNames.put.Goals as goal

pub returns : goal.returns
returns c =
    let entries = c.self.inside.names.entries in
    let key_is : c.in_ok-key.key.items ≡ c.args.name.now = c.in_ok-key.ensures.items ∙ c.bytes.ensures.bytes in
    let absent : first_in (entries_of entries) c.in_ok-key.key.items ≡ None =
    ap (λ n. first_in (entries_of entries) n) key_is ∙ ap (λ v. first_in v c.args.name.now) c.self.view_is
    ∙ c.requires in
    ap entries_of c.in_ok-insert.ensures.entries ∙ put_last entries c.in_ok-key.key c.args.first absent
    ∙ ap (λ n. entries_of entries ++ (n, c.args.first) ∷ []) key_is
    ∙ ap (λ v. v ++ (c.args.name.now, c.args.first) ∷ []) c.self.view_is
