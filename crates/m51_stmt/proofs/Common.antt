-- The words of other crates and of the definitions that the proofs of this crate use.
pub use Rattle.m51_cells.specs.Name.{is_name, name_of}
pub use Rattle.m51_cells.specs.declared.kind.Kind.{Kind}
pub use Rattle.m51_cells.specs.declared.kind.Reloc.{Reloc}
pub use Rattle.m51_expr.specs.Grammar.{Before, Between, Leaf, Parens, Tighter, Writes}
pub use Rattle.m51_expr.specs.Ranks.{is_open, leaf_of, prefix_rank}
pub use Rattle.m51_expr.specs.Reading.{Line, line_of_symbols}
pub use Rattle.m51_expr.specs.Symbol.{between_quotes, characters, symbol_by, word_or_other, word_symbol}
pub use Rattle.m51_expr.specs.Tree.{Tree}
pub use Rattle.m51_expr.specs.Words.{is_reserved}
pub use Rattle.m51_expr.specs.declared.symbol.Symbol.{Symbol}
pub use Rattle.m51_lex.specs.Characters.{is_sign, quote, space}
pub use Rattle.m51_lex.specs.Lexeme.{name_lexeme}
pub use Rattle.m51_lex.specs.Tokens.{Cut, after_lexeme, put_front, tokens_at}
pub use Rattle.m51_lex.specs.declared.token.Token.{Token}
pub use Rattle.m51_lex.specs.declared.token.What.{What}
pub use Rattle.m51_stmt.specs.Control.{closed_at, is_inside}
pub use Rattle.m51_stmt.specs.Definitions.{definition_form, is_allowed, is_overlayable, segment, segment_body}
pub use Rattle.m51_stmt.specs.Directives.{directive_form}
pub use Rattle.m51_stmt.specs.Externs.{externs_from}
pub use Rattle.m51_stmt.specs.Grammar.{AreExterns, AreOperands, HasOverlay, HasType, IsDefinition, IsDirective, IsExpr}
pub use Rattle.m51_stmt.specs.Grammar.{IsItem, IsList, IsName, IsOperand, IsSaid, IsStatement, IsValue, is_text_alone}
pub use Rattle.m51_stmt.specs.Kinds.{extern_kind_of}
pub use Rattle.m51_stmt.specs.Laws.{IsByte}
pub use Rattle.m51_stmt.specs.Lines.{said, statement, token_line, with_label}
pub use Rattle.m51_stmt.specs.Lists.{expression, item, list_of, name_alone, parts, value}
pub use Rattle.m51_stmt.specs.Operands.{operands}
pub use Rattle.m51_stmt.specs.Printing.{doubled, extern_text, item_text, kind_word, number_text, reloc_word, stmt_text}
pub use Rattle.m51_stmt.specs.Printing.{word_text}
pub use Rattle.m51_stmt.specs.Statement.{BodyTree, ItemTree, OperandTree, Plain, StmtTree}
pub use Rattle.m51_stmt.specs.Words.{is_comma}
pub use Rattle.m51_stmt.specs.declared.definitions.DefinitionWord.{DefinitionWord}
pub use Rattle.m51_stmt.specs.declared.directives.Directive.{Directive}
pub use Rattle.m51_stmt.specs.declared.externs.Awaited.{Awaited}
pub use Rattle.std.proofs.Common.{Bool, Err, List, None, Ok, Option, Result, Some, [], ap, append-nil, append_assoc}
pub use Rattle.std.proofs.Common.{arith, cond, drop, false, inl, inr, length, length-append, map, max, nat_lt, refl}
pub use Rattle.std.proofs.Common.{slice_get, slice_index, suc, sym, take, true, zero, ℕ, ◌++◌, ◌+◌, ◌-◌, ◌<◌, ◌==◌, ◌∙◌}
pub use Rattle.std.proofs.Common.{◌∷◌, ◌≡◌, ◌≤◌}
pub use Rattle.std.proofs.Math.Seq.{drop-append_seam, take-append_seam}
pub use Rattle.std.proofs.lemmas.Bool.{and_parts}
pub use Rattle.std.proofs.lemmas.Grind.{common_steps}
pub use Rattle.std.proofs.lemmas.Option.{same_Some}
pub use Rattle.std.proofs.lemmas.Slice.Eq.{bytes_eq-Decides}
pub use Rattle.std.specs.Char.{is_ascii_alphanumeric, is_ascii_digit}
pub use Rattle.std.specs.List.{list_all, prefix_len, slice_range}
pub use Rattle.std.specs.Prelude.{codes, option_and_then, option_map}
pub use Rattle.std.specs.Str.{bytes_eq}
