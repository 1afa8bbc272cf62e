pub mod GrownRuns
pub mod LoopSteps
pub mod FilledLines
pub mod LyingContent
