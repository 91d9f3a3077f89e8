-- Laws of the code that works the order out, laws of the order itself, and serializability proved.
pub mod CodeLaws
pub mod ListLaws
pub mod KeptTies
pub mod KeptChanges
pub mod Ranks
pub mod Courses
pub mod Waiting
pub mod OrderLaws
pub mod ReplayOrders
pub mod SerializabilityHolds
