pub mod ListedLemmas
pub mod WorthLemmas
pub mod SaidLemmas
pub mod HeardLemmas
pub mod MostLemmas
