-- Laws that the functions' proofs cite, and what callers know of an accepted mixture.
pub mod RowLaws
pub mod AlikeLaws
pub mod CheckLaws
