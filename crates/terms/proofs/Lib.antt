-- Laws of the table of refusals.
pub mod RefusalLaws
pub mod DocumentedHolds
