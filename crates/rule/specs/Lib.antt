pub mod Rule
pub mod Places
