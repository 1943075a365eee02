pub mod Words
pub mod Blocks
pub mod Reading
pub mod Part
pub mod Outcomes
pub mod Private
