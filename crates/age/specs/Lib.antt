pub mod Age
pub mod Formula
pub mod AgeGiven
