-- The definitions that the contracts of `meeting` cite, and what is promised of them.
pub mod Rows
pub mod Promises
