pub mod CommandLine
pub mod RunReports
