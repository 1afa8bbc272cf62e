-- The bytes and references of each line (this project's rules of content): those of its instruction, of DB or of DW.
pub use Rattle.m51_emit.specs.declared.content.EmittedContent.{EmittedContent}
pub use Rattle.m51_emit.specs.Content.{ReferenceAt, nothing, item_outcome, outcomes_by, placed_from}
pub use Rattle.m51_emit.specs.Content.{coded_content, references_in, item_given, item_content, later, followed_by}
pub use Rattle.m51_emit.specs.Content.{joined, content_by}
