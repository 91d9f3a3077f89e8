-- Laws of plans.
pub mod NameLaws
pub mod VerdictLaws
pub mod JudgingHolds
pub mod TextLaws
pub mod WordLaws
pub mod LaidLaws
pub mod EntryLaws
pub mod CountLaws
pub mod ReadLaws
pub mod BackLaws
pub mod AnswersHold
pub mod ReadingHolds
pub mod SaysLaws
pub mod LinesHold
pub mod WorkedHolds
