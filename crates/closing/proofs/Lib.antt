-- Demand 3, from one saga by itself up to any run of events.
pub mod Moves
pub mod OutstandingLaws
pub mod ReturnLaws
pub mod Shapes
pub mod OwnEvents
pub mod Acts
pub mod Order
pub mod UndoTies
pub mod ClosingAccepted
pub mod AlwaysCommitsHolds
pub mod Demand3Holds
pub mod ClosingSettlesHolds
pub mod SettledRunsHold
pub mod AttainedHolds
