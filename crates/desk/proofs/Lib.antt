-- Laws of a desk.
pub mod FitLaws
pub mod PutLaws
pub mod WayLaws
pub mod OriginLaws
pub mod StandLaws
pub mod QuestionLaws
pub mod BehindLaws
pub mod SortLaws
pub mod NamesLaws
pub mod TakingReadsHolds
pub mod NextAcceptedHolds
