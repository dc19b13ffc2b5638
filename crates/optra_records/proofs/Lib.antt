-- Lemmas on the records of texts.
pub mod ReadLemmas
pub mod TextLemmas
pub mod ReadBack
pub mod PowerLemmas
pub mod PlainNumbers
pub mod Utf8Lemmas
pub mod CanonicalLemmas
pub mod PlaceLemmas
pub mod CutLemmas
pub mod TableLemmas
pub mod CellLemmas
