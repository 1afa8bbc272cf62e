use Rattle.m51_asm.proofs
use proofs.Common.{◌≡◌, ℕ, not, map, ap, ◌∙◌, Vec, list_any, bytes_eq, made_public}
use proofs.DefinedLines.{keys_any, twice, key_put}
use proofs.publics.NotedPublics.note.Goals as goal

pub returns-clause-again : goal.returns-clause-again
returns-clause-again c =
    let keys = c.self.inside.names.keys in
    let key_is : c.in_ok-key.key.items ≡ c.args.name.now = c.in_ok-key.ensures.items ∙ c.bytes.ensures.bytes in
    ap not c.in_ok-added.ensures.added ∙ twice (list_any (λ (k : Vec ℕ). bytes_eq c.in_ok-key.key.items k.items) keys)
    ∙ keys_any c.in_ok-key.key.items keys ∙ ap (λ n. list_any (bytes_eq n) (map (λ (k : Vec ℕ). k.items) keys)) key_is
    ∙ ap (λ v. list_any (bytes_eq c.args.name.now) v) c.self.view_is

pub returns-clause-noted : goal.returns-clause-noted
returns-clause-noted c =
    let keys = c.self.inside.names.keys in
    let key_is : c.in_ok-key.key.items ≡ c.args.name.now = c.in_ok-key.ensures.items ∙ c.bytes.ensures.bytes in
    ap (map (λ (k : Vec ℕ). k.items)) c.in_ok-added.ensures.keys ∙ key_put keys c.in_ok-key.key
    ∙ ap (λ n. made_public (map (λ (k : Vec ℕ). k.items) keys) n) key_is
    ∙ ap (λ v. made_public v c.args.name.now) c.self.view_is
