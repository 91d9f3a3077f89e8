-- The definitions that the contracts of `judge` cite.
pub mod Judge
pub mod Lent
pub mod Known
pub mod Promises
