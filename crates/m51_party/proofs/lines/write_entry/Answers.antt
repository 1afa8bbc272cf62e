use Rattle.m51_party.proofs.Common.{ℕ, List, subst, sym, OnErr, OnOk, Appends, AppendsFront}
use Rattle.m51_party.proofs.Fronts.{one_entry}
use Rattle.m51_party.proofs.lines.write_entry.Goals as goal

pub returns-in-Some-clause-whole : goal.returns-in-Some-clause-whole
returns-in-Some-clause-whole g c =
    subst (λ (text : List ℕ). OnOk c.write_numbered.result
    (Appends (g.S.Sink.state c.args.out.now).text (g.S.Sink.state c.write_numbered.new.out).text text))
    (sym (one_entry c.args.index c.args.entry c.in-Some.entry c.in-Some.is)) c.write_numbered.ensures.whole

pub returns-in-Some-clause-front : goal.returns-in-Some-clause-front
returns-in-Some-clause-front g c =
    subst (λ (text : List ℕ). OnErr c.write_numbered.result
    (AppendsFront (g.S.Sink.state c.args.out.now).text (g.S.Sink.state c.write_numbered.new.out).text text))
    (sym (one_entry c.args.index c.args.entry c.in-Some.entry c.in-Some.is)) c.write_numbered.ensures.front
