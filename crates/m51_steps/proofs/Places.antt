-- The places at which steps are counted.
use Rattle.std.proofs.Common.{◌/◌, ◌<◌, arith}
use Rattle.m51_flat.specs.declared.state.Source.{Source}
use Rattle.m51_flat.specs.Vectors.{vector_of}

pub few_vectors : (source : Source) → vector_of source / 8 < 6
unfolding vector_of
few_vectors source = grind arith
