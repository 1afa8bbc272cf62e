use Rattle.std.proofs.Common.{◌≡◌, ◌++◌, take}
use Rattle.std.specs.List.{flat_map}
use Rattle.m51_records.specs.Spelling.{bytes_of}
use Rattle.m51_library.proofs.writing.put_modules.Given as goal

abbrev pub invariant-loop-member : goal.invariant-loop-member
invariant-loop-member l = l.out.items ≡ l.fn.out.items ++ flat_map bytes_of (take l.member-index l.modules)
