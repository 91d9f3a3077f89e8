-- The definitions that the contracts of `telling` cite.
pub mod Telling
