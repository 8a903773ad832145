pub mod BestLemmas
pub mod RankLemmas
pub mod FoundLemmas
pub mod ChoiceLemmas
