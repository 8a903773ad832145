pub mod DistinctLemmas
pub mod FittingLemmas
pub mod KeptLemmas
pub mod LinkTableLemmas
pub mod NameLemmas
pub mod ParameterTableLemmas
