-- The definitions that the contracts of `moves` cite, and what is promised of them.
pub mod Words
pub mod Moves
pub mod Lines
pub mod Worked
pub mod Promises
