-- Laws of operations and of the ties between them.
pub mod OpsLaws
pub mod TieLaws
pub mod DirtyLaws
pub mod TableLaws
pub mod RingLaws
pub mod OrderLaws
pub mod RingsExactHolds
pub mod DirtyStaysHolds
pub mod MeantHolds
