pub mod TakingLemmas
pub mod RoomLemmas
pub mod WorthLemmas
pub mod PlaceLemmas
pub mod GivenLemmas
pub mod TurnLemmas
