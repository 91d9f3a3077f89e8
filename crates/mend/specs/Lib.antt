-- The definitions that the contracts of `mend` cite, and what is promised of a mended book.
pub mod Mend
pub mod Phases
pub mod Promises
