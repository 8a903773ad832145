pub mod Completeness
pub mod Endings
pub mod Ends
pub mod Outcomes
pub mod Report
pub mod Words
