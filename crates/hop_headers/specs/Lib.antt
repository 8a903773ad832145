pub mod Gate
pub mod Hops
pub mod Laws
pub mod Names
pub mod Propagation
pub mod Stamps
