-- How the outcomes of the operands, items and public names of a line are counted.
pub use Rattle.m51_emit.specs.Outcomes.{made_with, part_fault, made_with_all, or_next, leftmost_fault}
