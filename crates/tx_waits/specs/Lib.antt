pub mod Kinds
pub mod Holders
