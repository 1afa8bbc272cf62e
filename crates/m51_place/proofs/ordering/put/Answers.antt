use Rattle.m51_place.proofs.Common.{List, Ranked, ap, comes_before, insert, sym, ◌∙◌, ◌≡◌}
use Rattle.m51_place.proofs.Ranks.{place_in, put_is}
use Rattle.m51_place.proofs.ordering.put.Goals as goal

pub returns : goal.returns
returns c =
    let t = c.args.ranked.now in
    let done : c.insert.new.self.items ≡ insert c.args.order.now.items c.index_for-index.result t =
    c.in_ok-insert.ensures.items in
    let index = c.index_for-index.ensures.index
    ∙ ap (λ (xs : List Ranked). place_in (λ u. comes_before t.rank u.rank) xs) c.deref.ensures.value in
    done ∙ ap (λ n. insert c.args.order.now.items n t) index ∙ sym (put_is t c.args.order.now.items)
