-- The address of the row that is found.
use Rattle.std.proofs.Common.{ap, ◌∙◌}
use Rattle.std.specs.Prelude.{option_map}
use Rattle.m51_sfr.specs.Registers.{row}
use Rattle.m51_sfr.specs.Coded.{CodedRow}
use Rattle.m51_sfr.proofs.Searches.{found}
use Rattle.m51_sfr.proofs.searching.address_in.Goals as goal

pub returns-in_err-found : goal.returns-in_err-found
returns-in_err-found c = c.from_residual.ensures ∙ ap (option_map (λ (r : CodedRow). r.1)) c.in_err-found.ensures
    ∙ found (λ (r : CodedRow). row r.0.now r.1) c.args.rows.now c.args.name.now

pub returns : goal.returns
returns c = ap (option_map (λ (r : CodedRow). r.1)) c.in_ok-found.ensures
    ∙ found (λ (r : CodedRow). row r.0.now r.1) c.args.rows.now c.args.name.now
