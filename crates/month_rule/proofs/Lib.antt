-- Laws that the functions' proofs cite.
-- all rows through all months
pub mod AllMonths
-- the two halves of a workspace
pub mod HalfLaws
