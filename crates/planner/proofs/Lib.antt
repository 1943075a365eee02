pub mod JudgedLaws
pub mod PlannedLaws
pub mod Unique
pub mod PlaceLaws
