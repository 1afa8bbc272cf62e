use Rattle.m51_party.proofs.Common.{ℕ, ◌+◌, List, [], ◌∷◌, subst, sym, OnErr, OnOk, Appends, AppendsFront}
use Rattle.m51_party.proofs.Fronts.{head_digit}
use Rattle.m51_sim.proofs.Tellings.{stop_front}
use Rattle.m51_party.proofs.lines.write_head.Goals as goal

pub returns-clause-whole : goal.returns-clause-whole
returns-clause-whole g c =
    subst (λ (text : List ℕ). OnOk c.write_whole.result
    (Appends (g.S.Sink.state c.args.out.now).text (g.S.Sink.state c.write_whole.new.out).text text))
    (sym (head_digit c.args.count c.requires)) c.write_whole.ensures.whole

pub returns-clause-front : goal.returns-clause-front
returns-clause-front g c =
    subst (λ (text : List ℕ). OnErr c.write_whole.result
    (AppendsFront (g.S.Sink.state c.args.out.now).text (g.S.Sink.state c.write_whole.new.out).text text))
    (sym (head_digit c.args.count c.requires))
    (stop_front c.write_whole.result (g.S.Sink.state c.args.out.now).text
    (g.S.Sink.state c.write_whole.new.out).text (80 ∷ 65 ∷ 82 ∷ 84 ∷ 89 ∷ 32 ∷ (48 + c.args.count) ∷ 10 ∷ [])
    c.write_whole.ensures.short)
