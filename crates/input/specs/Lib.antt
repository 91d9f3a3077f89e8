pub mod Filling
pub mod Words
