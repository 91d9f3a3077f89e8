-- How a ring is searched for: passes over the operations, and what they find. Rings themselves are defined in `ties`.
pub mod Passes
