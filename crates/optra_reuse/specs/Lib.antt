-- What a store of graphs holds, and how it changes.
pub mod Stores
pub mod StoreParts
pub mod Lending
