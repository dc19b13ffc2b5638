-- The leg on which a node is split, and the plain planner.
pub mod Splits
pub mod Planner
pub mod Laws
pub mod Plans
pub mod Marks
pub mod Openings
pub mod Searches
pub mod Reached
pub mod Closings
