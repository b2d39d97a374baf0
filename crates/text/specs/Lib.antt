pub mod Ascii
pub mod Spelling
pub mod Put
pub mod Printing
pub mod Claims
pub mod Examples
