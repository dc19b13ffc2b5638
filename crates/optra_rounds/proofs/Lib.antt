-- Lemmas on the rounds of an auction.
pub mod TakeLemmas
pub mod StandingLemmas
pub mod SpecLemmas
pub mod WinnerLemmas
