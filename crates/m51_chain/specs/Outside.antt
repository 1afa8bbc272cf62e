-- What a call on the outside changes.
use Rattle.m51_shelf.specs.States.{KeepAt, ReadAt, ShelfState}
use Rattle.m51_shelf.specs.Writing.{SinkState}

-- what a call changes: reading, keeping and writing before and after it
pub record Change : Type 0 where
  pub reads_before : ReadAt
  pub reads : ReadAt
  pub keeps_before : KeepAt
  pub keeps : KeepAt
  pub sink_before : SinkState
  pub sink : SinkState

-- the same by the states of a shelf and of a sink
abbrev pub change : ShelfState → ShelfState → SinkState → SinkState → Change
change old new sink_old sink_new = record {
  reads_before = old.reads;
  reads = new.reads;
  keeps_before = old.keeps;
  keeps = new.keeps;
  sink_before = sink_old;
  sink = sink_new;
}
