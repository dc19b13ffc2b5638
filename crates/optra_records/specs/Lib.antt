-- The definitions that all tables and texts share.
pub mod Reading
pub mod Numbers
pub mod Texts
pub mod Printing
pub mod Canonical
pub mod Cuts
pub mod Tables
