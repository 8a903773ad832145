pub mod KeptItems
pub mod KeptLemmas
pub mod KeptValues
