-- The laws that the functions' proofs cite.
pub mod LeastLaws
pub mod WalkLaws
