-- The definitions that the contracts of `sagalib` cite.
pub mod Numbers
