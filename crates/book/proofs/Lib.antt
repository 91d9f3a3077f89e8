-- Laws of whole books, demands 1 and 2, and what comes back of a written book.
pub mod ReadLaws
pub mod ReadingWalksHolds
pub mod OpeningLaws
pub mod LongestLaws
pub mod BehindLaws
pub mod RunLaws
pub mod WholeLaws
pub mod TablesBackLaws
pub mod SameTablesLaws
pub mod EventsBackHolds
pub mod PackingLaws
pub mod EdgeLaws
pub mod PlaceLaws
pub mod AnsweredLaws
pub mod DemandsHold
pub mod AsBeforeHolds
