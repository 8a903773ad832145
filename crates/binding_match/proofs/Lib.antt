pub mod Bools
pub mod HeaderLemmas
pub mod TopicLemmas
pub mod ValueLemmas
pub mod WalkLemmas
