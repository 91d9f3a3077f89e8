-- Laws of the text of a book.
pub mod ByteLaws
pub mod DueLaws
pub mod FormLaws
pub mod RowLaws
pub mod ReadLaws
pub mod ShowLaws
pub mod BackLaws
pub mod TextBackLaws
pub mod TextBackHolds
pub mod InWordsHolds
pub mod WorkedTextsHold
