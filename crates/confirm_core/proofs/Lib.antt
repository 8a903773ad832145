mod NumberLemmas
mod OpeningLemmas
mod LeastLemmas
mod LedgerLemmas
