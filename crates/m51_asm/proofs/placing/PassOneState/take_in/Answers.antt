use Rattle.m51_asm.proofs
use proofs.Common.{◌≡◌, ap, map, refl, ◌∙◌, line_tree, Giving, brief, value_in, rules, stmt_tree}
use Rattle.m51_asm.specs.Definitions.{definitions_in}
use Rattle.m51_asm.specs.GivenValues.{given_or}
use proofs.DefinedLines.{have_numbers}
use proofs.GoodLines.{free}
use proofs.ToldLines.{at_next}
use proofs.placing.PassOneState.take_in.Goals as goal

pub take_in-requires-clause-numbers : goal.take_in-requires-clause-numbers
take_in-requires-clause-numbers c =
    let defined : c.deref.result.now ≡ map brief (definitions_in (stmt_tree c.args.line.now.stmt)) = search rules in
    have_numbers c.args.self.now.externals (stmt_tree c.args.line.now.stmt) c.deref.result.now defined
    c.requires.declared

pub returns : goal.returns
returns c = λ lines a f is none at facts counts.
    let defined : c.deref.result.now ≡ map brief (definitions_in (stmt_tree c.args.line.now.stmt)) = search rules in
    let g : Giving =
    record {
      here = c.args.facts.now.here;
      expression = c.given.result;
      line = c.args.k;
      externals = c.args.self.now.externals;
    } in
    at_next f (line_tree c.args.line.now) is (free lines a c.args.k none) at facts counts c.requires.small
    g refl c.given.ensures refl refl _
    (λ name. c.in_ok-take_in.ensures name
    ∙ ap (λ ds. given_or g ds name (value_in c.args.self.now.values name)) defined)
    c.leave_open.ensures.table c.leave_open.ensures.current c.leave_open.ensures.last c.bank-self.ensures refl refl
