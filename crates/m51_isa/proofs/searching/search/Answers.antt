use Rattle.std.proofs.Common.{◌∙◌, Some, ap, rules}
use Rattle.m51_isa.proofs.RowsSearched.{none_is_found, row_is_found}
use Rattle.m51_isa.proofs.searching.search.Goals as goal

pub returns-in_err-row : goal.returns-in_err-row
returns-in_err-row c =
    c.from_residual.ensures
    ∙ none_is_found c.args.mnemonic.now c.args.a.now c.args.b.now c.args.c.now (search rules)

pub returns : goal.returns
returns c =
    ap Some c.instr_of.ensures
    ∙ row_is_found c.args.mnemonic.now c.args.a.now c.args.b.now c.args.c.now c.in_ok-row.row (search rules) _ _ _
    c.number_in.ensures.value c.number_in-2.ensures.value c.number_in-3.ensures.value
    c.number_in.ensures.is c.number_in-2.ensures.is c.number_in-3.ensures.is
