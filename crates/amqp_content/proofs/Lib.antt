pub mod HeaderLemmas
pub mod MethodLemmas
pub mod FrameLemmas
pub mod CommandLemmas
pub mod LawLemmas
pub mod FedLemmas
pub mod OnlyLemmas
