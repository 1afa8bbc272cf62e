use Rattle.m51_party.proofs.Common.{ℕ, ◌+◌, List, [], ◌∷◌, subst, sym, OnErr, OnOk, Appends, AppendsFront}
use Rattle.m51_party.proofs.Fronts.{front_digit}
use Rattle.m51_sim.proofs.Tellings.{stop_front}
use Rattle.m51_party.proofs.lines.write_front.Goals as goal

pub returns-clause-whole : goal.returns-clause-whole
returns-clause-whole g c =
    subst (λ (text : List ℕ). OnOk c.write_whole.result
    (Appends (g.S.Sink.state c.args.out.now).text (g.S.Sink.state c.write_whole.new.out).text text))
    (sym (front_digit c.args.index c.requires)) c.write_whole.ensures.whole

pub returns-clause-front : goal.returns-clause-front
returns-clause-front g c =
    subst (λ (text : List ℕ). OnErr c.write_whole.result
    (AppendsFront (g.S.Sink.state c.args.out.now).text (g.S.Sink.state c.write_whole.new.out).text text))
    (sym (front_digit c.args.index c.requires))
    (stop_front c.write_whole.result (g.S.Sink.state c.args.out.now).text
    (g.S.Sink.state c.write_whole.new.out).text ((49 + c.args.index) ∷ 58 ∷ 32 ∷ []) c.write_whole.ensures.short)
