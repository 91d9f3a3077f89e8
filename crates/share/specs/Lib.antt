-- The definitions that the contracts of `share` cite, and what is promised of them.
pub mod Shares
pub mod Promises
