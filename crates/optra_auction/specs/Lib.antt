-- The auction machine: what stands, which actions are refused, and what a round leaves; how the bids that stand are kept, and how
-- the code finds a refusal.
pub mod Machine
pub mod Kept
pub mod Tests
