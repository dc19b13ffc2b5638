pub mod ListingLemmas
pub mod TrainLemmas
pub mod FaultLemmas
pub mod EntryLemmas
pub mod VisitLemmas
pub mod TimesLemmas
pub mod NearLemmas
pub mod CollectLemmas
pub mod ClashLemmas
pub mod WalkLemmas
pub mod StayLemmas
mod MinuteLemmas
pub mod LawLemmas
pub mod NameLemmas
pub mod ChoiceLemmas
