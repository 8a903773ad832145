pub mod Lengths
pub mod Pieces
pub mod Spelled
pub mod Utf8
pub mod Views
pub mod Written
