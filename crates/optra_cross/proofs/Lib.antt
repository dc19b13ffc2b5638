pub mod SearchLemmas
pub mod FewRows
