pub mod DigitLaws
pub mod LineSteps
pub mod LowRecords
pub mod RecordLaws
pub mod RoundTrip
pub mod Spelling
pub mod StoredBytes
