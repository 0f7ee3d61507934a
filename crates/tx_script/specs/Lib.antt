pub mod Answered
pub mod Debug
pub mod Grammars
pub mod JsonLines
pub mod JsonRuns
pub mod JsonTexts
pub mod Report
pub mod Made
