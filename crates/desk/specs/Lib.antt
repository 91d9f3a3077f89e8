-- The definitions that the contracts of `desk` cite, and what is promised of a desk.
pub mod Ways
pub mod Desk
pub mod Questions
pub mod Promises
