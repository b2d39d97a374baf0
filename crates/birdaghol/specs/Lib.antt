pub mod Calls
pub mod Captures
pub mod Fields
pub mod Claims
pub mod Examples
