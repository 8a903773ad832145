pub mod Back
pub mod Events
pub mod Joined
pub mod Judged
pub mod Links
pub mod Slots
