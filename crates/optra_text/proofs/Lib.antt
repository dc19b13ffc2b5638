-- Lemmas on the printed texts.
pub mod PieceLemmas
pub mod TrackLemmas
pub mod TrainLemmas
pub mod AuditLemmas
pub mod CompressedLemmas
pub mod RoundLemmas
pub mod LegsTold
pub mod TrainsTold
pub mod PlanTold
pub mod Accepted
pub mod DemoPieces
pub mod EvidenceForm
pub mod EvidenceLemmas
