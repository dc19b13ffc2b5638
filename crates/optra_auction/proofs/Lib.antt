-- Lemmas on the bids that stand, as the map of names keeps them, and on what an auction keeps.
pub mod KeptLemmas
pub mod MachineLemmas
pub mod RefusalLemmas
pub mod AuctionLemmas
pub mod ActLemmas
