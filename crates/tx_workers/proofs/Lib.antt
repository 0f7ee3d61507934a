pub mod Crews
pub mod Finding
pub mod Grown
pub mod Notes
pub mod NumberedLines
pub mod Reached
pub mod Turned
pub mod Unoffered
