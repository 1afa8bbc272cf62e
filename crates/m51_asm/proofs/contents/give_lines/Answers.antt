use Rattle.m51_asm.proofs
use proofs.Common.{◌≡◌, ◌==◌, map, length, ap, sym, subst, ◌∙◌, add-one, arith, length-map, line_tree, nothing_gathered}
use proofs.Common.{number_at, is_nothing, LieInside, EmittedContent, slice_get_within}
use proofs.AnAssignment.{fitting, fits}
use proofs.AnsweredLines.{read_at}
use proofs.GatheredLines.{first_given, placed_text, segments_few, first_gathered, next_gathered, given_fits, line_lies}
use proofs.contents.give_lines.Goals as goal

pub nothing_gathered-requires : goal.nothing_gathered-requires
nothing_gathered-requires c =
    let t = c.args.text.now in
    let lines = map line_tree t.text.lines.now in
    let a = fitting lines in
    let ready = c.requires.ready a (fits lines) in
    rw c.len.ensures
    (segments_few lines a (placed_text lines a t c.requires.text ready) t.numbering.now.segments
    ready.numbered.segments)

pub loop-k-init : goal.loop-k-init
loop-k-init c =
    let t = c.args.text.now in
    let lines = map line_tree t.text.lines.now in (
      λ a f. rw c.in_ok-contents.ensures (first_given lines a),
      λ none a f.
          let ready = c.requires.ready a f in
          c.in_ok-gathered.ensures ∙ ap nothing_gathered c.len.ensures
          ∙ first_gathered lines a (placed_text lines a t c.requires.text ready) t.numbering.now.segments
          ready.numbered.segments,
    )

pub gather_line-requires-clause-memory : goal.gather_line-requires-clause-memory
gather_line-requires-clause-memory c = λ clean.
    let t = c.args.text.now in
    let lines = map line_tree t.text.lines.now in
    let k = c.loop-k.k in
    let a = fitting lines in
    let ready = c.requires.ready a (fits lines) in
    let r = read_at t.text.lines.now a t.places.now ready.placed.each k (omega arith) (omega arith) _
    c.index-lines-k.is _ in
    let here = c.in_ok-content.ensures.given lines a k ready r.0 r.1 (c.loop-k.invariant.0 a (fits lines)) in
    given_fits lines a (placed_text lines a t c.requires.text ready) k _ c.in_ok-content.content
    (slice_get_within lines k _ r.0)
    (here.1.clean (is_nothing c.give_line.new.contents.faults (sym c.is_empty-is_clean.ensures ∙ clean)) k
    (omega arith))
    r.1.offset here.0

pub gather_line-requires-clause-inside : goal.gather_line-requires-clause-inside
gather_line-requires-clause-inside c =
    let t = c.args.text.now in
    let lines = map line_tree t.text.lines.now in
    let k = c.loop-k.k in
    let a = fitting lines in
    let ready = c.requires.ready a (fits lines) in
    let r = read_at t.text.lines.now a t.places.now ready.placed.each k (omega arith) (omega arith) _
    c.index-lines-k.is _ in
    subst (λ (x : EmittedContent). LieInside (length x.bytes) x.references)
    (sym (c.in_ok-content.ensures.given lines a k ready r.0 r.1 (c.loop-k.invariant.0 a (fits lines))).0)
    (line_lies lines a k)

pub loop-k-preserved : goal.loop-k-preserved
loop-k-preserved c =
    let t = c.args.text.now in
    let lines = map line_tree t.text.lines.now in
    let k = c.loop-k.k in
    rw add-one (
      λ a f.
          let ready = c.requires.ready a f in
          let r = read_at t.text.lines.now a t.places.now ready.placed.each k (omega arith) (omega arith) _
          c.index-lines-k.is _ in
          (c.in_ok-content.ensures.given lines a k ready r.0 r.1 (c.loop-k.invariant.0 a f)).1,
      λ none a f.
          let ready = c.requires.ready a f in
          let r = read_at t.text.lines.now a t.places.now ready.placed.each k (omega arith) (omega arith) _
          c.index-lines-k.is _ in
          next_gathered lines a (placed_text lines a t c.requires.text ready) k _ _
          c.in_ok-content.content t.numbering.now.segments c.loop-k.gathered.items _ ready.numbered.segments
          (ap (number_at t.numbering.now.numbers) r.1.segment ∙ ready.numbered.each (a.segment k).id)
          r.1.offset (c.in_ok-content.ensures.given lines a k ready r.0 r.1 (c.loop-k.invariant.0 a f)).0
          (c.loop-k.invariant.1 (c.in_ok-content.ensures.faults none) a f)
          (c.in_ok-gather_line.ensures (c.is_empty-is_clean.ensures ∙ ap (λ fs. length fs == 0) none)),
    )

pub returns-clause-given : goal.returns-clause-given
returns-clause-given c = λ a f.
    let lines = map line_tree c.args.text.now.text.lines.now in
    let same : c.loop-k.k ≡ length lines = omega (arith, length-map c.args.text.now.text.lines.now line_tree) in
    rw same at c.loop-k.invariant.0 a f

pub returns-clause-gathered : goal.returns-clause-gathered
returns-clause-gathered c = grind (arith, length-map)
