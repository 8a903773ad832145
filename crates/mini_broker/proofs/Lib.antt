mod AnswerLemmas
mod CloseLemmas
mod FoundLemmas
mod PublishLemmas
pub mod RoutedLemmas
