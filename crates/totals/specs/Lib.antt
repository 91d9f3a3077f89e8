-- The definitions that the contracts of `totals` cite, and what is promised of them.
pub mod Figures
pub mod Promises
