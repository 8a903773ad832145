pub mod Choices
pub mod Fields
pub mod Laws
pub mod Links
pub mod Numbers
pub mod Values
pub mod Words
