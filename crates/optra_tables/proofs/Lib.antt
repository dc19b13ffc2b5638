-- Lemmas on tables.
pub mod WrittenLemmas
pub mod WrittenBids
pub mod WrittenStops
pub mod WrittenPrints
pub mod WrittenLaw
pub mod RecordLemmas
pub mod RowLemmas
pub mod FreeLemmas
pub mod StepLemmas
pub mod CompleteLemmas
pub mod BidLemmas
pub mod BidStepLemmas
pub mod KeptLemmas
pub mod AloneLemmas
pub mod ActionLemmas
pub mod RulesLemmas
