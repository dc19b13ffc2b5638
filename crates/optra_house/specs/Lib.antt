-- What the contracts of this crate cite.
pub mod Payloads
pub mod Reading
pub mod Entries
pub mod Replay
pub mod Forms
pub mod Journal
pub mod Replayed
pub mod Answers
pub mod Ledger
pub mod PostAnswers
pub mod Stamps
