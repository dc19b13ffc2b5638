-- What graphs, their paths and the searches mean.
pub mod Paths
pub mod NarrowArcs
pub mod Spans
pub mod GraphParts
pub mod WaySums
pub mod NarrowSums
pub mod Skips
pub mod Agreeing
