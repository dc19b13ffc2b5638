-- The lemmas of the searches.
pub mod Ways
pub mod GraphLemmas
pub mod NarrowLoops
pub mod NarrowWays
pub mod SkipLemmas
pub mod SameLemmas
