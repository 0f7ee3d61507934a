pub mod Parts
pub mod Children
pub mod Laws
pub mod PartFacts
pub mod ChildFacts
