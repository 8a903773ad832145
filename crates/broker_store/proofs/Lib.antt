mod ConfirmLemmas
mod CountLemmas
mod EnterLemmas
mod KeyLemmas
mod MailLemmas
mod MessageLemmas
pub mod NameLemmas
mod OwnedLemmas
mod QueueLemmas
mod TableLemmas
