use Rattle.m51_build_proof.proofs.Promised.{chain_keeps_promise}
use Rattle.m51_build_proof.proofs.laws.chain_keeps_the_promise.Goals as goal

pub returns : goal.returns
returns c = chain_keeps_promise
