use Rattle.std.proofs.Common.{◌≡◌, ◌<◌, ℕ, List, length, sym, ◌∙◌, ap}
use Rattle.std.proofs.lemmas.List.{get_or-map}
use Rattle.std.specs.Prelude.{slice_index_or, map}
use Rattle.m51_isa.specs.Rows.{TextRow}
use Rattle.m51_isa.proofs.table.row_among.Goals as goal

-- a column of the row of a number
read : {X Y : Type 0} (f : X → TextRow) (g : TextRow → Y) (rows : List X) (i n : ℕ) (d : X) (e : TextRow) → i ≡ n
    → n < length rows → g (f (slice_index_or rows i d)) ≡ g (slice_index_or (map f rows) n e)
read f g rows i n d e same h =
    ap (λ k. g (f (slice_index_or rows k d))) same ∙ sym (ap g (get_or-map f rows n d e h))

pub returns-clause-mnemonic : goal.returns-clause-mnemonic
returns-clause-mnemonic c =
    read (λ r. (r.0.now, r.1)) (λ r. r.0) c.args.rows.now _ _ _ _ c.from.ensures c.requires

pub returns-clause-columns : goal.returns-clause-columns
returns-clause-columns c =
    read (λ r. (r.0.now, r.1)) (λ r. r.1) c.args.rows.now _ _ _ _ c.from.ensures c.requires
