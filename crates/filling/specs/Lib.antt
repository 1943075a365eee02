pub mod Cycles
pub mod Ordered
pub mod Runs
pub mod Filled
pub mod Shown
pub mod Outcomes
pub mod Drawn
pub mod Private
