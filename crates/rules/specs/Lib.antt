-- The definitions that the contracts of `rules` cite.
pub mod States
pub mod Lent
pub mod Rules
pub mod Promises
