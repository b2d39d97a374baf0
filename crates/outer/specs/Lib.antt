pub mod Products
pub mod Rows
pub mod Walks
