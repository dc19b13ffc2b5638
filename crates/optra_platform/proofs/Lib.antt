pub mod FewRows
