-- The laws of chances and weights.
pub mod RuleLaws
pub mod GuardLaws
