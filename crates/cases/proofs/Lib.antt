pub mod FillingTests
pub mod Starred
