pub mod HostLemmas
pub mod PlacedLemmas
