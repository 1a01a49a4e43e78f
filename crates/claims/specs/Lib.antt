-- What the contracts cite.
pub mod Values
pub mod Listing
