-- Lemmas on the plan of some bids, and on rounds that are played.
pub mod PlanLemmas
pub mod AmountLemmas
mod PlayLemmas
mod RoundLemmas
mod CountLemmas
pub mod OnePlayLemmas
mod HouseLemmas
