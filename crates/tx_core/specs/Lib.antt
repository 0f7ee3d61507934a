pub mod Free
pub mod Machines
pub mod Laws
pub mod Runs
pub mod Undo
pub mod Owners
pub mod OwnerFacts
pub mod Lives
