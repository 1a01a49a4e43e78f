-- What the contracts cite.
pub mod Openings
