use Rattle.m51_asm.proofs
use proofs.Common.{subst, line_tree}
use Rattle.m51_asm.specs.ValuesAt.{PutsIf}
use proofs.ToldLines.{set_next}
use proofs.setting.take_set.Goals as goal

pub returns : goal.returns
returns c = λ lines a k is place before.
    set_next lines a k (line_tree c.args.line.now) c.args.place.now c.args.set.now c.put_if.new.set is place before
    (subst (λ o. PutsIf c.args.set.now c.put_if.new.set o c.args.place.now.given) c.set_in-name.ensures
    c.in_ok-put_if.ensures)
