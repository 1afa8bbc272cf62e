use Rattle.m51_resolve.proofs
use proofs.Common.{◌≡◌, ◌<◌, ◌≤◌, List, None, [], ◌∷◌, get_or, length, map, ap, arith, length-append, ◌∙◌, length-map}
use proofs.Common.{MOST_MODULES, ModuleParts, IsNext}
use Rattle.std.proofs.Common.{Bor}
use Rattle.m51_resolve.specs.WorkChoice.{IsNextAt}
use proofs.Tables.{lent_is}
use proofs.Choices.{asked_more, asked_start, choosing_more, choosing_start, few_is, stopped}
use Rattle.m51_resolve.proofs.choosing.choose_of.Goals as goal

-- the borrowed members
abbrev parts_of : List (Bor ModuleParts) → List ModuleParts
parts_of members = map (λ m. m.now) members

pub loop-index-init : goal.loop-index-init
loop-index-init c = record {
  choosing = choosing_start c.args.given (parts_of c.args.members.now);
  asked = asked_start c.args.given (parts_of c.args.members.now);
}

pub next_needed-requires-clause-asked : goal.next_needed-requires-clause-asked
next_needed-requires-clause-asked c = λ name w. c.in_ok-asked.ensures.each name
    ∙ c.loop-index.invariant.asked.each name w

pub loop-index-smaller : goal.loop-index-smaller
loop-index-smaller c =
    let chosen = c.loop-index.chosen in
    let next : IsNextAt chosen (parts_of c.args.members.now) c.in-Some.index = c.in-Some.ensures in
    let few : length chosen ≤ MOST_MODULES = few_is (length chosen) next.few in
    omega (arith, few, ap length c.in_ok-chosen.ensures, length-append chosen (c.in_ok-member.member ∷ []))

pub loop-index-preserved : goal.loop-index-preserved
loop-index-preserved c =
    let chosen = c.loop-index.chosen in
    let members = c.args.members.now in
    let index = c.in-Some.index in
    let next : IsNextAt chosen (parts_of members) index = c.in-Some.ensures in
    let below : index < length members =
    omega (arith, next.inside, length-map members (λ (m : Bor ModuleParts). m.now)) in
    let m : ModuleParts = c.index-members-index.result.now in
    let is : m ≡ get_or (parts_of members) index m =
    lent_is (λ m. m.now) members index c.index-members-index.result below c.index-members-index.is in
    rw (c.in_ok-chosen.ensures, c.in_ok-member.ensures) (record {
      choosing = choosing_more c.args.given (parts_of members) chosen index m c.loop-index.invariant.choosing next is;
      asked = asked_more c.args.given (parts_of members) chosen index m next.inside is c.loop-index.invariant.asked;
    })

pub returns : goal.returns
returns c =
    let none : IsNext c.loop-index.chosen (parts_of c.args.members.now) None = c.in_default.ensures in
    stopped c.args.given (parts_of c.args.members.now) c.loop-index.chosen c.loop-index.invariant.choosing none
