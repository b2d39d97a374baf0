pub mod Format
pub mod Outcomes
pub mod Steps
pub mod Faults
pub mod Claims
pub mod Examples
