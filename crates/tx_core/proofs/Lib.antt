pub mod Reading
pub mod FreeNumbers
pub mod LeastNumbers
pub mod Steps
pub mod SoFar
pub mod MadeAgain
pub mod LivesCounted
