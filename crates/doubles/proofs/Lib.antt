pub mod RangeLaws
pub mod PartLaws
pub mod RoundLaws
pub mod ZeroLaws
