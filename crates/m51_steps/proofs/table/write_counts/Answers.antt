use Rattle.std.proofs.Common.{ℕ, List, subst}
use Rattle.std.specs.Prelude.{OnErr, OnOk}
use Rattle.std.specs.Io.KnownBytes.{Appends}
use Rattle.m51_cells.specs.Outside.{AppendsFront}
use Rattle.m51_steps.specs.Counts.{table_in, table_text}
use Rattle.m51_steps.proofs.table.write_counts.Goals as goal

pub returns-clause-whole : goal.returns-clause-whole
returns-clause-whole g c =
    subst (λ (k : List ℕ). OnOk c.write_table.result (Appends (g.S.Sink.state c.args.out.now).text
    (g.S.Sink.state c.write_table.new.out).text (table_text k (table_in c.args.counts.now)))) c.bytes.ensures.list
    c.write_table.ensures.whole

pub returns-clause-front : goal.returns-clause-front
returns-clause-front g c =
    subst (λ (k : List ℕ). OnErr c.write_table.result (AppendsFront (g.S.Sink.state c.args.out.now).text
    (g.S.Sink.state c.write_table.new.out).text (table_text k (table_in c.args.counts.now)))) c.bytes.ensures.list
    c.write_table.ensures.front
