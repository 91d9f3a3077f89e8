-- Laws of rows, and that what is promised of the table holds.
pub mod RowLaws
pub mod TableTellsHolds
