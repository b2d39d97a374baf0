pub mod Packing
pub mod Fields
pub mod Theorems
pub mod Examples
