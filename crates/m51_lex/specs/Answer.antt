-- What a call answers that cuts a line into its tokens.
use Rattle.std.specs.Prelude.{◌≡◌, List, Result, Ok, Err, Vec}
use Rattle.std.specs.declared.alloc.Global.{Global}
use Rattle.m51_lex.specs.declared.token.Token.{Token}
use Rattle.m51_lex.specs.declared.token.LexError.{LexError}
use Rattle.m51_lex.specs.declared.token.LexError.TheVariants.{Fault, Memory}
use Rattle.m51_lex.specs.Tokens.{Cut}

-- The call answers what the definition does: its tokens, or the fault of its number. Only out of memory is free.
abbrev pub IsCutResult : Result (Vec Token Global) LexError → Cut → Type 0
IsCutResult (Ok tokens) cut = cut ≡ Ok tokens.items
IsCutResult (Err (Fault number)) cut = cut ≡ Err number
IsCutResult (Err Memory) cut = Unit {0}

-- The same of a call that writes these tokens.
abbrev pub WritesTokens : {A : Type 0} → List Token → Result A LexError → Cut → Type 0
WritesTokens tokens (Ok done) cut = cut ≡ Ok tokens
WritesTokens tokens (Err (Fault number)) cut = cut ≡ Err number
WritesTokens tokens (Err Memory) cut = Unit {0}
