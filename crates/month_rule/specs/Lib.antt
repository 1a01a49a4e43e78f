-- What the contracts cite.
pub mod Months
