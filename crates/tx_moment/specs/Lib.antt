pub mod Unseen
pub mod Shuffles
pub mod Moments
pub mod Laws
