use Rattle.std.proofs.Common.{◌≡◌, ◌≢◌, ◌+◌, arith}
use Rattle.m51_linker.specs.Growing.AddsByte.{Joined, Apart}
use Rattle.m51_linker.proofs.running.add_byte.Goals as goal

pub returns-in_ok-push-in-Some : goal.returns-in_ok-push-in-Some
returns-in_ok-push-in-Some c =
    let ends : c.in-Some.run'.first + c.in-Some.run'.len ≡ c.args.address = omega arith in
    Joined c.pop.new.self.items c.in-Some.run' c.in-Some.ensures.items ends c.in_ok-push-in-Some.ensures.items

pub returns-in_ok-push-in-Some-2-2 : goal.returns-in_ok-push-in-Some-2-2
returns-in_ok-push-in-Some-2-2 c =
    let other : c.in-Some.run'.first + c.in-Some.run'.len ≢ c.args.address =
    λ e. c.if-end_of-from.false (omega arith) in
    Apart c.pop.new.self.items c.in-Some.run' c.in-Some.ensures.items other
    (cc (c.in_ok-push-in-Some-2-2.ensures.items, c.in_ok-push-in-Some-2.ensures.items, c.in-Some.ensures.items))
