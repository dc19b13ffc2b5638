-- The nodes still to come, what an open node keeps ready, and what it allows, as tests.
pub mod ToCome
pub mod Beside
pub mod Opens
pub mod Tests
pub mod Loaded
pub mod Keyed
pub mod NodeWeights
