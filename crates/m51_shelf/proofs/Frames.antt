-- What calls that read leave as it is, one after another.
use Rattle.std.proofs.Common.{refl, ◌∙◌, arith, le_refl}
use Rattle.m51_shelf.specs.States.{ShelfState, OnlyReads, ReadsOn}

pub nothing_read : (at : ShelfState) → OnlyReads at at
nothing_read at = record { holds = refl; keeps = refl; later = le_refl _ }

pub nothing_read_on : (at : ShelfState) → ReadsOn at at
nothing_read_on at = record { frame = nothing_read at; named = refl; opened = refl }

pub reads_then : (first between last : ShelfState) → OnlyReads first between → OnlyReads between last
    → OnlyReads first last
reads_then first between last one two =
    record { holds = two.holds ∙ one.holds; keeps = two.keeps ∙ one.keeps; later = omega (arith, one.later, two.later) }

pub reads_on_then : (first between last : ShelfState) → ReadsOn first between → ReadsOn between last
    → ReadsOn first last
reads_on_then first between last one two = record {
  frame = reads_then first between last one.frame two.frame;
  named = two.named ∙ one.named;
  opened = two.opened ∙ one.opened;
}
