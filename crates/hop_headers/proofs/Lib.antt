pub mod GoingOn
pub mod HopLemmas
pub mod Loops
pub mod PropagationLemmas
pub mod Spelled
pub mod StampLemmas
pub mod TableLemmas
pub mod Views
