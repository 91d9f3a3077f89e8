-- Runs of events, and what is promised of judging them.
pub mod Histories
pub mod Promises
pub mod May
pub mod Families
