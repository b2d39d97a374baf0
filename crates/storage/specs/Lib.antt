pub mod Sizes
pub mod Bytes
pub mod Modulo
pub mod Change
pub mod Tile
