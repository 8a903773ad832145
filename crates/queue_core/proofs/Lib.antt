mod EntryLemmas
mod RowLemmas
mod TallyLemmas
