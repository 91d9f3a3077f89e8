-- The definitions that the contracts of `replay` cite, and what is promised of the order: serializability.
pub mod Replay
pub mod Promises
