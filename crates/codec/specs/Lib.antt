-- What the contracts and the laws of the calls cite.
pub mod Answers
pub mod Input
