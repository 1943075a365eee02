pub mod Patterns
pub mod PatternLaws
pub mod OperationLaws
pub mod Unique
pub mod BitLaws
pub mod FrameLaws
pub mod MaskLaws
