-- Laws of passes over the operations, and of searching by them.
pub mod PassLaws
pub mod SpreadLaws
pub mod LentLaws
pub mod PrecededLaws
pub mod CaseLaws
