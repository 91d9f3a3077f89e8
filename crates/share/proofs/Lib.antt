-- Laws of the greatest common divisor, and that what is promised of a share holds.
pub mod DivisorLaws
pub mod SharesHold
