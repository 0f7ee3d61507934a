pub mod Entries
pub mod Numbers
pub mod Parts
pub mod Laws
