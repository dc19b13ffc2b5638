pub mod HereLemmas
pub mod FitLemmas
pub mod StuckLemmas
pub mod LeafLemmas
pub mod BoundLemmas
pub mod VerdictLemmas
pub mod LeastPriceLemmas
pub mod BestWalkLemmas
