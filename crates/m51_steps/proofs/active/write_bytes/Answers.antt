use Rattle.std.proofs.Common.{ℕ, List, ap, subst, ◌∙◌}
use Rattle.std.specs.Prelude.{OnErr, OnOk, slice_index}
use Rattle.std.specs.Io.KnownBytes.{Appends}
use Rattle.m51_cells.specs.Outside.{AppendsFront}
use Rattle.m51_flat.specs.States.{States}
use Rattle.m51_steps.specs.Ram.{byte_code, bytes_text, changes_text}
use Rattle.m51_steps.proofs.Shown.{cells_now}
use Rattle.m51_steps.proofs.active.write_bytes.Goals as goal

pub returns-clause-whole : goal.returns-clause-whole
unfolding bytes_text
returns-clause-whole g c =
    let cells = cells_now c.monitor.result.now c.args.board.now.monitor c.store.result.now c.monitor.ensures
    c.store.ensures.answers c.stands.ensures.state.stores in
    subst (λ (t : List ℕ). OnOk c.write_ram.result (Appends (g.S.Sink.state c.args.out.now).text
    (g.S.Sink.state c.write_ram.new.out).text t))
    (ap (λ (k : States). changes_text (slice_index c.args.shown.now) (byte_code k)) cells) c.write_ram.ensures.whole

pub returns-clause-front : goal.returns-clause-front
unfolding bytes_text
returns-clause-front g c =
    let cells = cells_now c.monitor.result.now c.args.board.now.monitor c.store.result.now c.monitor.ensures
    c.store.ensures.answers c.stands.ensures.state.stores in
    subst (λ (t : List ℕ). OnErr c.write_ram.result (AppendsFront (g.S.Sink.state c.args.out.now).text
    (g.S.Sink.state c.write_ram.new.out).text t))
    (ap (λ (k : States). changes_text (slice_index c.args.shown.now) (byte_code k)) cells) c.write_ram.ensures.front

pub returns-clause-codes : goal.returns-clause-codes
returns-clause-codes g c =
    let cells = cells_now c.monitor.result.now c.args.board.now.monitor c.store.result.now c.monitor.ensures
    c.store.ensures.answers c.stands.ensures.state.stores in
    λ a small. c.write_ram.ensures.codes a small ∙ ap (λ (k : States). byte_code k a) cells
