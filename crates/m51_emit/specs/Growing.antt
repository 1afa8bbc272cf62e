-- What a line gives, as it grows item by item: what the loop over items keeps.
use Rattle.m51_emit.specs.declared.items.GrowingContent.{GrowingContent}
use Rattle.m51_emit.specs.Content.{EmittedContent}

-- the bytes and references of the items so far
abbrev pub content_in : GrowingContent → EmittedContent
content_in g = record { bytes = g.bytes.items; references = g.references.items }
