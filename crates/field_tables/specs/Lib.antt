pub mod Fields
pub mod Lengths
pub mod Reading
pub mod Same
pub mod SameLaws
pub mod Tables
pub mod View
pub mod Writing
