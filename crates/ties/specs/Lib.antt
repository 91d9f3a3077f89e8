-- The definitions that the contracts of `ties` cite, and what is promised of them.
pub mod Operations
pub mod Ties
pub mod Promises
