pub mod NextLemmas
pub mod CutLemmas
pub mod StreamLemmas
pub mod LawLemmas
