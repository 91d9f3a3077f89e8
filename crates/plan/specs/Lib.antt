-- The definitions that the contracts of `plan` cite, and what is promised of them.
pub mod Names
pub mod Verdict
pub mod Lines
pub mod Reading
pub mod Passes
pub mod Promises
pub mod Worked
