-- The definitions that the contracts of `tables` cite, and what accepted tables are.
pub mod Sorts
pub mod Counts
pub mod Dependencies
pub mod Circles
pub mod Reading
pub mod Accepted
pub mod Written
