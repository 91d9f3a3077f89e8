-- Laws of the numbers.
pub mod NumberLaws
