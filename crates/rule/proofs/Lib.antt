pub mod AllLaws
pub mod RuleLaws
pub mod RuleTests
