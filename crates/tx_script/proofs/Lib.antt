pub mod Reported
pub mod AnsweredTexts
pub mod Walked
pub mod JsonAnswered
pub mod JsonLined
pub mod RunLines
pub mod StepsMade
