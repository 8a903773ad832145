pub mod Confirms
pub mod Consumers
pub mod Exchanges
pub mod Mail
pub mod Messages
pub mod Queues
