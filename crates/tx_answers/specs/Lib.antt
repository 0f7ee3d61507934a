pub mod Faults
pub mod Handed
pub mod Sessions
pub mod Texts
