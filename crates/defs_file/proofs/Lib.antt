pub mod AssemblyLemmas
pub mod KeptFiles
pub mod Utf8Lemmas
