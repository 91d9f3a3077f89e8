-- The proved cases, a book for every refusal, and the worked listing.
pub mod Cases
pub mod Listed
pub mod Books
