-- Laws of the sum, and that it is kept.
pub mod KeptHolds
pub mod SumLaws
pub mod TakeLaws
