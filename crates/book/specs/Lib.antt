-- The definitions that the contracts of `book` cite, demands 1 and 2, what comes back of a written book, and the proved cases.
pub mod Reading
pub mod Walked
pub mod Packing
pub mod Demands
pub mod Back
pub mod Before
