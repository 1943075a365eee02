pub mod OfWords
pub mod Rows
pub mod Answered
pub mod Private
