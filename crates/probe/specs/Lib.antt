-- The definition that the contracts of `probe` cite.
pub mod Probed
