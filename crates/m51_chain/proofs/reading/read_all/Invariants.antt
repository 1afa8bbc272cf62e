use Rattle.m51_chain.proofs.Common.{AreGiven, AreRead, ReadsSome, take, ◌≡◌, ◌⊎◌}
use Rattle.m51_shelf.specs.States.{OnlyReads}
use Rattle.m51_chain.proofs.reading.read_all.Given as goal

abbrev pub invariant-loop-name : goal.invariant-loop-name
invariant-loop-name g l = record {
  frame : OnlyReads (g.F.Shelf.state l.fn.files) (g.F.Shelf.state l.files);
  read : AreRead (g.F.Shelf.state l.fn.files).holds (take l.name-index l.names) l.contents;
  reads : ((g.F.Shelf.state l.files).reads ≡ (g.F.Shelf.state l.fn.files).reads)
      ⊎ ReadsSome l.names (g.F.Shelf.state l.fn.files).reads (g.F.Shelf.state l.files).reads;
  given : AreGiven (take l.name-index l.names) (g.F.Shelf.state l.fn.files).reads (g.F.Shelf.state l.files).reads
      l.contents;
}
