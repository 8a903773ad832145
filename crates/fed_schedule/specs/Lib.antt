pub mod Forms
pub mod Messages
pub mod Options
pub mod Reasons
pub mod Schedule
pub mod Statements
pub mod Times
