pub mod Rows
pub mod Planned
pub mod Judged
