pub mod BytesLaws
pub mod ShownLaws
pub mod BookLaws
pub mod Unique
