pub mod Texts
pub mod Rooms
pub mod Lengths
pub mod Theorems
pub mod Examples
