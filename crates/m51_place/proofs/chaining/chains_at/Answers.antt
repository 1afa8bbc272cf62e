use Rattle.m51_place.proofs.Common.{length, none-some, ℕ, ◌≤◌}
use Rattle.m51_place.proofs.Chained.{first_all, first_with, first_without}
use Rattle.m51_place.proofs.chaining.chains_at.Goals.{in-None, in-Some+in_ok-chain_of-in-Some+in_ok-push-in-Some}
use Rattle.m51_place.proofs.chaining.chains_at.Goals as goal

pub loop-address-preserved : goal.loop-address-preserved
loop-address-preserved c =
    let l = c.args.layout.now in
    let xs = c.args.addresses.now in
    let i : ℕ = c.loop-address.address-index in
    elim c.match-root.branch [
      | in-Some+in_ok-chain_of-in-Some+in_ok-push-in-Some w ↦
          let chain = w.in_ok-chain_of-in-Some.field-0 in
          rw (w.chains-is, w.in_ok-push-in-Some.ensures.items)
          (first_with l xs i 0 c.loop-address.chains.items chain c.loop-address-test.true
          (rw w.in_ok-chain_of-in-Some.ensures.root w.in-Some.ensures.some)
          w.in_ok-chain_of-in-Some.ensures.heaviest c.loop-address.invariant)
      | in-None w ↦ rw w.chains-is
          (first_without l xs i 0 c.loop-address.chains.items c.loop-address-test.true
          (λ unit root. none-some unit (w.in-None.ensures.only unit root)) c.loop-address.invariant)
    ]

pub returns : goal.returns
returns c =
    let past : length c.args.addresses.now ≤ c.loop-address.address-index = c.loop-address-test.false in
    first_all c.args.layout.now c.args.addresses.now c.loop-address.address-index c.loop-address.chains.items past
    c.loop-address.invariant
