-- The rounds of an auction over the list of all its actions.
pub mod Rounds
