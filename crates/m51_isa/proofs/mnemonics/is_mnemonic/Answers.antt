-- A word is looked for among the mnemonics of its first letter.
use Rattle.std.proofs.Common.{◌≡◌, ◌∙◌, sym, subst}
use Rattle.std.specs.List.{list_any}
use Rattle.std.specs.Str.{bytes_eq}
use Rattle.m51_isa.specs.Mnemonics.{is_mnemonic}
use Rattle.m51_isa.proofs.mnemonics.is_mnemonic.Goals as goal

pub returns-in-Some : goal.returns-in-Some
returns-in-Some c =
    c.is_among.ensures
    ∙ subst (λ word. list_any (λ w. bytes_eq w.now word) c.of_letter.result.now ≡ is_mnemonic word)
    (sym c.in-Some.ensures.cases.0) (c.of_letter.ensures c.in-Some.field-0-1.now)
