pub mod OfBookLaws
pub mod Unique
