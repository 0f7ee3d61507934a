pub mod Frames
pub mod Outcomes
pub mod Access
pub mod Places
