-- What the contracts cite.
pub mod Least
pub mod Rows
