-- The definitions that the contracts of `sets` cite, and following a relation.
pub mod Sets
pub mod Reach
