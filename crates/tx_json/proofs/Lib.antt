pub mod OneLine
pub mod OneMore
pub mod StateAppended
