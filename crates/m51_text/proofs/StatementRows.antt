-- Each instruction that a line writes has a row.
use Rattle.std.proofs.Common.{ℕ, List, Option, Some, None, inl, inr}
use Rattle.m51_stmt.specs.Statement as body
use Rattle.m51_stmt.specs.Statement.{BodyTree}
use Rattle.m51_stmt.proofs.PrintedBodies.{IsBody}
use Rattle.m51_stmt.proofs.PrintedStatements.{IsControl, IsLine}
use Rattle.m51_stmt.proofs.ReadStatements.{written_is_good}
use Rattle.m51_encode.proofs.FormRows.{forms_have_rows}
use Rattle.m51_text.specs.Rows.{HasRows, StatementsHaveRows}

body_has_rows : (at : ℕ) (b : BodyTree) → IsBody at b → HasRows b
body_has_rows at (body.Code m os) is = λ form. forms_have_rows m os is.form form
body_has_rows at b is = tt

control_has_rows : (b : BodyTree) → IsControl b → HasRows b
control_has_rows (body.Code m os) is = absurd is
control_has_rows b is = tt

line_has_rows : (label : Option (List ℕ)) (b : BodyTree) → IsLine label b → HasRows b
line_has_rows None b (inl is) = control_has_rows b is
line_has_rows None b (inr is) = body_has_rows 0 b is
line_has_rows (Some name) b is = body_has_rows 2 b is.1

pub statements_have_rows : StatementsHaveRows
statements_have_rows line s writes = line_has_rows s.label s.body (written_is_good line s writes)
