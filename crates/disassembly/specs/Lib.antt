pub mod Listing
pub mod Pieces
pub mod Put
pub mod Claims
pub mod Examples
