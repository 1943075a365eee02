pub mod Seven
pub mod RangesLaws
pub mod AnswersLaws
pub mod Unique
pub mod RepetitionLaws
pub mod RangesDecided
pub mod ResultsLaws
