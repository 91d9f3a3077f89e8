-- The order of the transactions as rows of bits: what the rows hold on the way. Rings themselves are defined in `ties`.
pub mod Rows
