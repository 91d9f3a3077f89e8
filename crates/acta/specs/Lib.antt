-- The words of the papers, and their axioms over the accepted events.
pub mod Words
pub mod Told
pub mod Fundamental
pub mod Depending
pub mod Delegating
pub mod Objects
pub mod Completing
pub mod Nesting
pub mod Accepting
pub mod SagaWords
pub mod SagaLemmas
pub mod Structure
pub mod ByTheLetter
pub mod Undos
pub mod Frame
pub mod Awaiting
pub mod Acta
