pub mod Tests
pub mod Members
pub mod Counting
pub mod Orders
pub mod Theorems
