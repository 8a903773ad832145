pub mod Faults
pub mod Headers
pub mod Steps
pub mod Commands
pub mod Laws
pub mod View
