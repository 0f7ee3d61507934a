pub mod Footprints
pub mod Laws
pub mod Objects
pub mod Reservations
