-- What a store keeps.
pub mod StoreLemmas
