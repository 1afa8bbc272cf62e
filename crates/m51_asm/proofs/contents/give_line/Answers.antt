use Rattle.m51_asm.proofs
use proofs.Common.{◌≡◌, ◌++◌, [], ap, ◌∙◌, line_tree, located_value, here_at, here_of, body_of, if_fault, arith}
use proofs.Common.{number_at, ℕ, names_at}
use Rattle.m51_emit.specs.Outcomes.{or_next}
use Rattle.m51_asm.specs.Publishing.{fault_among, published_by, publics_among}
use Rattle.m51_asm.specs.ObjectSegments.{segment_number, final}
use Rattle.m51_emit.specs.Lines.{row_by}
use proofs.ToldLines.{place_is, names_of, names_mean}
use proofs.GatheredLines.{published_is, next_given, content_is, unfaulted}
use proofs.contents.give_line.Goals as goal

pub returns-clause-given : goal.returns-clause-given
returns-clause-given c = λ lines a k ready is stands h.
    let t = c.args.text.now in
    let line = line_tree c.args.line.now in
    let numbers = c.as_slice.result.now in
    let each : (id : ℕ) → number_at numbers id ≡ segment_number lines a id =
    λ id. ap (λ ns. number_at ns id) c.as_slice.ensures ∙ ready.numbered.each id in
    let n = names_of t c.args.contents.now.set c.args.place.now.bank c.here_of-here.result numbers in
    let here : located_value c.here_of-here.result ≡ here_at a k =
    c.here_of-here.ensures ∙ ap (λ s. here_of s c.args.place.now.offset) c.segment.ensures
    ∙ place_is lines a k line is t ready c.args.place.now stands in
    let names : names_at n ≡ final lines a k =
    names_mean lines a k t ready c.args.contents.now.set h.sets c.args.place.now stands c.here_of-here.result here
    numbers each in
    let of = published_by n in
    let emitted = c.in_ok-emitted.ensures (a.form k)
    (c.row_of_code-row.ensures ∙ stands.row ∙ ap (λ l. row_by (a.form k) (body_of l)) is) in
    let content = ap (λ l. l.content) emitted in (
      content_is lines a k line is (names_at n) names
          c.in_ok-emitted.emitted.content content,
      next_given lines a k line is c.args.contents.now _ h (names_at n) names of
          (λ i name. published_is lines a t ready numbers each k _ _ _ names name i) c.row_at.result
          c.in_ok-emitted.emitted.content
          (c.in_ok-take_set.ensures lines a k is stands h.sets)
          (ap (λ l. l.made) emitted)
          (c.in_ok-unpublished.ensures.publics ∙ ap (λ ns. c.args.contents.now.publics ++ publics_among of ns)
          c.publics_in.ensures)
          (c.in_ok-push_fault.ensures
          ∙ ap (λ o. c.args.contents.now.faults ++ if_fault line o [])
          (c.or_next.ensures ∙ (λ i. or_next ((ap (λ l. l.fault) emitted) i)
          ((c.in_ok-unpublished.ensures.fault ∙ ap (fault_among of) c.publics_in.ensures) i))))
          c.in_ok-push.ensures.ok
          (c.row_at.ensures a k (ap (λ v. v.number) here))
          content,
    )

pub returns-clause-faults : goal.returns-clause-faults
returns-clause-faults c = grind (arith, unfaulted)
