pub mod Bindings
pub mod Links
pub mod Listing
pub mod Queues
