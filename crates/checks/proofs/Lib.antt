pub mod Texts
pub mod Streams
