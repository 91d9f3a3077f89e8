-- The definitions that the contracts of `script` cite, and what is promised of them.
pub mod Forms
pub mod Stages
pub mod Scripts
pub mod Promises
pub mod InWords
pub mod WorkedTexts
