-- The definitions that belong to no crate above: searches over numbers, and the lines of a verdict.
pub mod Index
pub mod Lines
