use Rattle.std.proofs.Common.{◌≡◌, ◌++◌, map, drop}
use Rattle.m51_expr.specs.Symbol.{symbol_of}
use Rattle.m51_expr.proofs.symbol.symbols_into.Given as goal

abbrev pub invariant-loop-token : goal.invariant-loop-token
invariant-loop-token l = l.out.items ++ map (symbol_of l.line) (drop l.token-index l.tokens)
    ≡ map (symbol_of l.line) l.tokens
