pub mod Patterns
pub mod Policies
