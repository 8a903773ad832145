pub mod Arguments
pub mod Lent
pub mod Methods
pub mod Reading
pub mod Rows
pub mod Table
pub mod View
