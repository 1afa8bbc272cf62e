use Rattle.std.proofs.Common.{◌≡◌, ◌∙◌, ℕ, List, ◌++◌, sym, append_assoc}
use Rattle.std.specs.Prelude.{codes}
use Rattle.m51_generator.proofs.procedures.label_line.Goals as goal

-- four texts, joined from either end
joined : (a b c d : List ℕ) → a ++ (b ++ (c ++ d)) ≡ a ++ b ++ c ++ d
joined a b c d = sym (append_assoc a b (c ++ d)) ∙ sym (append_assoc (a ++ b) c d)

pub returns : goal.returns
returns c = c.in_ok-format.ensures.ok ∙ joined c.args.label.now (codes ": MOV ") c.args.local.now (codes ",A")
