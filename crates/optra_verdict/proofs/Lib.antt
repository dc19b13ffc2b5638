-- Lemmas on families of rows and their rules, on the promise, and on the verdict on bytes.
pub mod FamilyLemmas
pub mod RuleLemmas
pub mod PromiseLemmas
pub mod BidLemmas
pub mod VerdictLemmas
mod OneVerdictLemmas
