pub mod Patches
pub mod Ranges
pub mod Writes
