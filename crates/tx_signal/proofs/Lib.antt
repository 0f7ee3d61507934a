pub mod ExchangeFacts
pub mod QueueFacts
pub mod SetFacts
