pub mod Table
pub mod Calls
pub mod Topics
pub mod Edits
