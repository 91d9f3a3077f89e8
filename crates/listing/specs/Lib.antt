-- The definitions that the contracts of `listing` cite.
pub mod Words
pub mod Texts
pub mod Lines
pub mod Promises
pub mod Books
