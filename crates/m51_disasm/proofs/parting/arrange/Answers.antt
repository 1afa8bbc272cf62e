-- The units are sorted by their bases.
use Rattle.std.proofs.Common.{rules, ◌<◌, List, get_or, arith}
use Rattle.std.specs.List.{All}
use Rattle.std.proofs.lemmas.List.Sorted.{All-permutation}
use Rattle.m51_disasm.specs.declared.part.CodeRange.{CodeRange}
use Rattle.m51_disasm.specs.Parts.{IsInside}
use Rattle.m51_disasm.proofs.Sorting.{after_sort}
use Rattle.m51_disasm.proofs.parting.arrange.Goals as goal

bases : (xs : List CodeRange) → All IsInside xs → All (λ y. y.base < 65536) xs
bases xs h k d below = let inside : IsInside (get_or xs k d) = h k d below in omega (arith, inside.some, inside.ends)

pub returns-clause-inside : goal.returns-clause-inside
returns-clause-inside c = All-permutation IsInside _ _ c.sort_by_key.ensures.permutation c.requires

pub returns-clause-order : goal.returns-clause-order
returns-clause-order c =
    after_sort c.sort_by_key.result c.args.units.now.items c.sort_by_key.new.self.items c.sort_by_key.ensures.sorted
    c.sort_by_key.ensures.stable (λ a r q k. search rules)
    (bases _ (All-permutation IsInside _ _ c.sort_by_key.ensures.permutation c.requires))
