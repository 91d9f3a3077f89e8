-- The definitions that the contracts of `left` cite, and what is promised of the sum that is kept.
pub mod Left
pub mod Promises
