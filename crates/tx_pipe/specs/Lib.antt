pub mod Exchanges
pub mod Laws
