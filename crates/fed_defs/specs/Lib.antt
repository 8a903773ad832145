pub mod Choices
pub mod Links
pub mod Places
pub mod Policies
pub mod Properties
pub mod Texts
pub mod Uris
pub mod Words
