use Rattle.m51_graph.proofs.Common.{Bool, sym, take, ◌≡◌, ◌||◌, ◌+◌, ℕ, List, length, ap, ◌∙◌, arith, Control, bit}
use Rattle.m51_graph.proofs.Common.{is_apart}
use Rattle.std.proofs.Common.{◌/◌}
use Rattle.std.proofs.lemmas.List.{length-replicate, take_all}
use Rattle.m51_graph.specs.Locals.{keeps_apart}
use Rattle.m51_relations.proofs.BitLaws.{bit_none}
use Rattle.std.proofs.Math.Bool.{or_comm}
use Rattle.std.proofs.lemmas.List.Folds.{list_any_more}
use Rattle.m51_graph.proofs.locals.apart_units.Goals as goal

pub loop-line-init : goal.loop-line-init
loop-line-init c =
    let count : ℕ = (length c.titles.result.now + 63) / 64 in
    let same : length c.titles.result.now ≡ length c.args.titles.now =
    ap (λ (names : List (List ℕ)). length names) c.titles.ensures.titles in
    let len : length c.in_ok-row.row ≡ count = ap (λ (row : List ℕ). length row) c.in_ok-row.ensures
    ∙ length-replicate count 0 in
    record {
      room = omega (arith, len, same);
      bits = λ unit. ap (λ (row : List ℕ). bit row unit) c.in_ok-row.ensures ∙ bit_none count unit;
    }

pub put_apart-requires : goal.put_apart-requires
put_apart-requires c = c.loop-line.invariant.room

pub loop-line-preserved : goal.loop-line-preserved
loop-line-preserved c =
    let l = c.loop-line in
    let line = c.line-item.result in
    let test : ℕ → ℕ × Control → Bool = λ unit line. keeps_apart c.args.titles.now unit line.1 in
    record {
      room = omega (arith, l.invariant.room, c.put_apart.ensures.len);
      bits = λ unit.
          c.put_apart.ensures.put unit ∙ ap (λ b. test unit line || b) (l.invariant.bits unit)
          ∙ or_comm (test unit line) _
          ∙ ap (λ line. is_apart c.args.titles.now (take l.line-index c.args.controls.now) unit || test unit line)
          c.line-item.is
          ∙ sym (list_any_more (test unit) c.args.controls.now l.line-index line c.loop-line-test.true);
    }

pub returns : goal.returns
returns c = λ i unit.
    (c.loop-line.invariant.bits unit
    ∙ ap (λ lines. is_apart c.args.titles.now lines unit)
    (take_all c.loop-line.line-index c.args.controls.now (omega (arith, c.loop-line-test.false)))) i
