-- Laws of phases, of transactions in numbers, and of what the saga rules and dependencies forbid.
pub mod PhaseLaws
pub mod StateLaws
pub mod LentLaws
pub mod RuleLaws
pub mod LeavesAloneHolds
pub mod OwnChildrenHold
pub mod DeclaredBarsHold
