pub mod OctetLemmas
pub mod PatternLemmas
pub mod UrisLemmas
