use Rattle.std.proofs.Common.{◌≡◌, refl, rules, ◌⊎◌, inl, inr}
use Rattle.m51_isa.specs.declared.instr.Instr.{Instr}
use Rattle.m51_isa.specs.declared.instr.Instr.TheVariants.{Nop}
use Rattle.m51_isa.specs.Table.{length_of}
use Rattle.m51_isa.proofs.table.length.Goals as goal

-- a row of more bytes has an arm of its own
by_row : (c : goal.In_default) (i : Instr) → c.args.instr.now ≡ i → (1 ≡ length_of i) ⊎ ⊥
by_row c Nop e = inl refl
by_row c i e = search (rules, inl, inr, c.in_default)

pub returns-in_default : goal.returns-in_default
returns-in_default c = elim (by_row c c.args.instr.now refl) [ inl e ↦ e | inr e ↦ absurd e ]
