-- Laws of sets and of following a relation.
pub mod SetLaws
pub mod ReachLaws
pub mod RowLaws
pub mod FollowingHolds
