pub mod Sorting
pub mod Flagged
pub mod Walking
pub mod Placing
pub mod Written
pub mod Leading
