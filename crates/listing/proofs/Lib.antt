-- Laws of texts, of numbers in decimal, and of the lines of the listing.
pub mod TextLaws
pub mod DigitLaws
pub mod LayLaws
pub mod ListingLaws
pub mod TextPromisesHold
pub mod PieceLaws
pub mod StepLaws
pub mod SizeLaws
pub mod WholeLaws
pub mod ListingsFitHold
pub mod Demand3BooksHolds
pub mod RecordsEndLinesHold
