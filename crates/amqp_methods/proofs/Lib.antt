pub mod ArgumentLemmas
pub mod BitLemmas
pub mod CallLemmas
pub mod MethodLemmas
pub mod RowLemmas
pub mod TableLemmas
