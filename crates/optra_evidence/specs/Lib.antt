-- What the best walks of bids are worth at a leaf; what a leaf says of a bid, and the greatest of it; and what follows of it.
pub mod Worths
pub mod Figures
pub mod Listed
pub mod Evidence
