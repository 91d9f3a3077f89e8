-- Laws of the sweep that makes the rows, of searching by them, and of operations one of which is read as another.
pub mod SweepLaws
pub mod LedLaws
pub mod LentLaws
