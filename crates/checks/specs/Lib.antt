pub mod Text
pub mod Stream
pub mod Tally
pub mod Stdin
