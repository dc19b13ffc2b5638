pub mod Codes
pub mod Crosses
pub mod Places
pub mod PlaceLemmas
pub mod CrossLemmas
pub mod CrossTexts
pub mod CrossTextLemmas
