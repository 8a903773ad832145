pub mod EscapeLemmas
pub mod HostLemmas
pub mod PlaceLemmas
pub mod PortLemmas
