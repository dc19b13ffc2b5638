-- Lemmas on the files that a command gets, on how a run ends, and on what its files mean.
pub mod ContentLemmas
pub mod VersionLemmas
pub mod GetLemmas
pub mod PutLemmas
pub mod RefusalLemmas
pub mod EndingLemmas
pub mod CompletionLemmas
