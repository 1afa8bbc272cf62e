use Rattle.std.proofs.Common.{◌≡◌, drop}
use Rattle.m51_shelf.specs.Shelf.{file_of, file_or_empty}
use Rattle.m51_shelf.proofs.files.index_of.Given as goal

abbrev pub invariant-loop-index : goal.invariant-loop-index
invariant-loop-index l = record {
  told : file_of (drop l.index l.files) l.name ≡ file_of l.files l.name;
  any : file_or_empty (drop l.index l.files) l.name ≡ file_or_empty l.files l.name;
}
