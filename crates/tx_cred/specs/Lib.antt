pub mod Cred
pub mod Outcomes
