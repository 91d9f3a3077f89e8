-- The definitions that the contracts of `terms` cite.
pub mod Limits
pub mod Events
pub mod Refusals
pub mod Promises
