pub mod Errors
pub mod Lends
pub mod Numbers
pub mod Signals
pub mod Slots
pub mod SlotFacts
pub mod Steps
