-- The definitions that the contracts of `report` cite, and what is promised of them.
pub mod Report
pub mod Promises
