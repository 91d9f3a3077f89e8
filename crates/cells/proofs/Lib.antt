-- Laws of operations in lent numbers.
pub mod CellLaws
pub mod DirtyLaws
pub mod NextLaws
