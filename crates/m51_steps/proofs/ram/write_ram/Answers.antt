use Rattle.std.proofs.Common.{ℕ, List, refl, subst}
use Rattle.std.specs.Prelude.{OnErr, OnOk, slice_index}
use Rattle.std.specs.Io.KnownBytes.{Appends}
use Rattle.m51_cells.specs.Outside.{AppendsFront}
use Rattle.m51_monitor.specs.Shared.{shared_cells}
use Rattle.m51_steps.specs.Ram.{byte_code}
use Rattle.m51_steps.proofs.Shown.{changes_same}
use Rattle.m51_steps.proofs.ram.write_ram.Goals as goal

pub returns-clause-whole : goal.returns-clause-whole
returns-clause-whole g c =
    let same = changes_same (slice_index c.args.shown.now) (slice_index c.args.shown.now)
    (slice_index c.byte_codes-now.result) (byte_code (shared_cells c.args.store.now)) (λ a small. refl)
    c.byte_codes-now.ensures.codes in
    subst (λ (t : List ℕ). OnOk c.write_changes-written.result (Appends (g.S.Sink.state c.args.out.now).text
    (g.S.Sink.state c.write_changes-written.new.out).text t)) same c.write_changes-written.ensures.whole

pub returns-clause-front : goal.returns-clause-front
returns-clause-front g c =
    let same = changes_same (slice_index c.args.shown.now) (slice_index c.args.shown.now)
    (slice_index c.byte_codes-now.result) (byte_code (shared_cells c.args.store.now)) (λ a small. refl)
    c.byte_codes-now.ensures.codes in
    subst (λ (t : List ℕ). OnErr c.write_changes-written.result (AppendsFront (g.S.Sink.state c.args.out.now).text
    (g.S.Sink.state c.write_changes-written.new.out).text t)) same c.write_changes-written.ensures.front
