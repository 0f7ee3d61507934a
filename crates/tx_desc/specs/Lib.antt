pub mod Places
pub mod Descriptions
pub mod EndCounts
pub mod Counts
pub mod Outcomes
pub mod Plans
pub mod CountFacts
pub mod Laws
