pub mod Names
pub mod Limits
pub mod Twice
pub mod Counted
