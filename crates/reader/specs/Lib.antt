pub mod Answers
pub mod Claims
pub mod Guess
pub mod Examples
