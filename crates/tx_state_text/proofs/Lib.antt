pub mod Listed
pub mod OneMore
