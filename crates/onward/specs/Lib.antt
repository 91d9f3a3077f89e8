-- The definitions that the contracts of `onward` cite, and what is promised of reading in both ways.
pub mod Onward
pub mod Rooms
pub mod Promises
