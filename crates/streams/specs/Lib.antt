-- What the contracts cite.
pub mod Reached
