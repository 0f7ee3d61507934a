pub mod Numbers
pub mod Hands
pub mod Stations
