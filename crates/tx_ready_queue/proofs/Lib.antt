pub mod Counting
pub mod Drains
pub mod Each
pub mod Moves
