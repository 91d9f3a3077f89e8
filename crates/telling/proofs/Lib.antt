-- Laws of telling.
pub mod TellLaws
