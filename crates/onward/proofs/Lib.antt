-- Laws of reading on, and what is promised of it.
pub mod OnwardLaws
pub mod RefusedLaws
pub mod CutLaws
pub mod EventNumberLaws
pub mod StopLaws
pub mod ReadingOnHolds
pub mod RoomLaws
pub mod ListLaws
pub mod ItemCountLaws
pub mod RecordsIgnoredHolds
pub mod RecordsToldHolds
