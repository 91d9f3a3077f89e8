-- The proved cases and the worked listing, by computation.
pub mod CasesHold
pub mod ListedHolds
pub mod BooksHold
