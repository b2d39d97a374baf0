pub mod Modulo
pub mod Bytes
pub mod Changes
pub mod Tiles
pub mod Laws
pub mod Walks
pub mod Clearing
pub mod Sizes
