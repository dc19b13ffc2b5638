-- What legs cost, and the best walk of a bid by a table over the minutes.
pub mod Weights
pub mod Places
pub mod Settings
pub mod Rests
pub mod Ways
pub mod Tables
pub mod Sizes
pub mod Starts
pub mod Reaches
pub mod Asks
