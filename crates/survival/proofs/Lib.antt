-- The laws that the functions' proofs, and the calls above, cite.
pub mod PairLaws
pub mod Theorems
