-- What the tables of a demo are.
pub mod Draws
pub mod Kinds
pub mod Names
pub mod Networks
pub mod Bids
pub mod Ranges
pub mod Demos
