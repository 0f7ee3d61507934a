pub mod Comments
pub mod Agreement
pub mod Lines
pub mod States
pub mod Outcomes
pub mod Command
pub mod Checks
pub mod Laws
