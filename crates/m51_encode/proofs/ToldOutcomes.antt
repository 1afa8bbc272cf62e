-- The fault of an instruction is that of its leftmost operand that has one.
use Rattle.std.proofs.Common.{◌≡◌, List, [], ◌∷◌, Option, Some, None, Ok, Err, refl, subst, sym, ◌∙◌}
use Rattle.m51_isa.specs.declared.instr.Instr.{Instr}
use Rattle.m51_encode.specs.declared.coding.Coded.{Coded}
use Rattle.m51_encode.specs.declared.reference.Reference.{Reference}
use Rattle.m51_encode.specs.declared.filling.Held.{Held}
use Rattle.m51_encode.specs.declared.outcome.OperandOutcome.{OperandOutcome}
use Rattle.m51_encode.specs.declared.outcome.OperandOutcome.TheVariants.{Faulty}
use Rattle.m51_encode.specs.Filling.{Answer}
use Rattle.m51_encode.specs.Outcomes.{linked, operand_outcome, first_faulty}
use Rattle.m51_encode.specs.Coding.{coded_as, gathered, three_outcomes, first_of, second_of, third_of, coded}
use Rattle.m51_encode.specs.OutcomeLaws.{IsFaultOrCoded, OutcomesTell}
use Rattle.m51_encode.proofs.FormRows.{forms_have_rows}

skip : (o : Option Reference) (more : List OperandOutcome) → first_faulty (linked o ∷ more) ≡ first_faulty more
skip None more = refl
skip (Some r) more = refl

-- of what three operands gave
told : (row : Instr) (x y z : Answer Held) → IsFaultOrCoded (first_faulty (three_outcomes x y z)) (gathered row x y z)
told row (Err e) y z = refl
told row (Ok a) (Err e) z =
    let answer : Answer Coded = Err e in
    let more : List OperandOutcome = Faulty e.number ∷ operand_outcome z ∷ [] in
    subst (λ w. IsFaultOrCoded w answer) (sym (skip a.reference more)) refl
told row (Ok a) (Ok b) (Err e) =
    let answer : Answer Coded = Err e in
    let more : List OperandOutcome = Faulty e.number ∷ [] in
    subst (λ w. IsFaultOrCoded w answer)
    (sym (skip a.reference (linked b.reference ∷ more) ∙ skip b.reference more)) refl
told row (Ok a) (Ok b) (Ok c) =
    let answer : Answer Coded = Ok (coded_as row a b c) in
    let more : List OperandOutcome = linked c.reference ∷ [] in
    subst (λ w. IsFaultOrCoded w answer)
    (sym (skip a.reference (linked b.reference ∷ more) ∙ (skip b.reference more ∙ skip c.reference []))) refl

pub outcomes_tell : OutcomesTell
outcomes_tell names mnemonic operands may form =
    let has = forms_have_rows mnemonic operands may form in
    let x : Answer Held = first_of names has.row has.line.first in
    let y : Answer Held = second_of names has.row has.line.second in
    let z : Answer Held = third_of names has.row has.line.third in
    subst (λ w. IsFaultOrCoded (first_faulty w) (coded names mnemonic operands form)) (sym (has.comes_to names))
    (subst (IsFaultOrCoded (first_faulty (three_outcomes x y z))) (sym (has.code names)) (told has.row x y z))
