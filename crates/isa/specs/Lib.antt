pub mod Row
pub mod Refusals
pub mod Table
pub mod Answers
pub mod Lines
pub mod Claims
pub mod Counts
pub mod Examples
