-- Laws that the functions' proofs cite, and that a program reads enough of its input.
pub mod PartLaws
pub mod WeightLaws
pub mod ReadingLaws
pub mod MixtureLaws
pub mod LongInput
