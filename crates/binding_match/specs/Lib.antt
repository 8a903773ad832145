pub mod Headers
pub mod Topics
pub mod Values
pub mod Walks
