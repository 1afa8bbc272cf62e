-- The lines at the beginnings of the statements are those of the statements.
use Rattle.std.proofs.Common.{◌≡◌, ◌+◌, ◌∙◌, arith}
use Rattle.m51_disasm.proofs.Walking.{same_lines}
use Rattle.m51_disasm.proofs.listing.push_statements.Goals as goal

pub returns : goal.returns
returns c =
    let ends : c.from.result + c.from-2.result ≡ c.args.part.base + c.args.part.size = omega arith in
    same_lines c.push_lines_at.result c.args.image.now c.args.text.now.items c.args.part
    (c.from.result + c.from-2.result) c.in_ok-begins.begins c.in_ok-led.led c.addresses.result.now
    c.addresses-2.result.now c.push_lines_at.new.text.items ends
    (c.in_ok-begins.ensures ∙ c.in_ok-beginnings_of.ensures.value) c.addresses.ensures
    (c.in_ok-led.ensures ∙ c.in_ok-targets_of.ensures) c.addresses-2.ensures c.push_lines_at.ensures
