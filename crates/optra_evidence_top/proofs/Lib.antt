pub mod BoundLemmas
pub mod EntryLemmas
