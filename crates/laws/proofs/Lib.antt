-- Laws that belong to no crate above.
pub mod Bools
pub mod Decisions
pub mod IndexLaws
pub mod SearchLaws
pub mod HighestLaws
pub mod StepLaws
pub mod SameLaws
pub mod LineLaws
pub mod ListLaws
