pub mod Codes
pub mod ContentHeader
pub mod HeaderReading
pub mod Laws
pub mod Rows
pub mod Same
pub mod SameLinks
