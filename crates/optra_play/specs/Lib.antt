-- What the plan of some bids promises, and how an auction is played and played out.
pub mod Plans
pub mod Certificates
pub mod Play
pub mod OnePlay
pub mod Playing
pub mod HouseRounds
pub mod RoundsPlanned
