pub mod Bits
pub mod Frames
pub mod Loads
pub mod Slots
