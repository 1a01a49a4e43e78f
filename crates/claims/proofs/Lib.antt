-- Laws that the functions' proofs cite.
pub mod ListingLaws
pub mod SummingLaws
