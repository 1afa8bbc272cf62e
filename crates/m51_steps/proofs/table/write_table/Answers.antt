use Rattle.std.proofs.Common.{ℕ, List, subst}
use Rattle.std.specs.Prelude.{OnErr, OnOk}
use Rattle.std.specs.Io.KnownBytes.{Appends}
use Rattle.m51_cells.specs.Outside.{AppendsFront}
use Rattle.m51_steps.specs.Counts.{table_in}
use Rattle.m51_steps.proofs.Tabled.{table_is}
use Rattle.m51_steps.proofs.table.write_table.Goals as goal

pub returns-clause-whole : goal.returns-clause-whole
returns-clause-whole g c =
    subst (λ (k : List ℕ). OnOk c.write_titled.result (Appends (g.S.Sink.state c.args.out.now).text
    (g.S.Sink.state c.write_titled.new.out).text k))
    (table_is c.titles.result.now c.args.image.now (table_in c.args.counts.now) c.titles.ensures)
    c.write_titled.ensures.whole

pub returns-clause-front : goal.returns-clause-front
returns-clause-front g c =
    subst (λ (k : List ℕ). OnErr c.write_titled.result (AppendsFront (g.S.Sink.state c.args.out.now).text
    (g.S.Sink.state c.write_titled.new.out).text k))
    (table_is c.titles.result.now c.args.image.now (table_in c.args.counts.now) c.titles.ensures)
    c.write_titled.ensures.front
