pub mod Names
pub mod Lists
pub mod Claims
