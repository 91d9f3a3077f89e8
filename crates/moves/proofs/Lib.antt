-- Laws of what staff read, and the promises of the record move.
pub mod SaidLaws
pub mod SaidHolds
pub mod WorkedHolds
pub mod MovePromisesHold
