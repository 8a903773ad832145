pub mod Asked
pub mod Confirms
pub mod Hosts
pub mod Reasons
pub mod Recorded
pub mod Suits
pub mod Told
pub mod View
