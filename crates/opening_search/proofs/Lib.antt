-- The laws that the functions' proofs cite.
pub mod SearchLaws
pub mod Theorems
