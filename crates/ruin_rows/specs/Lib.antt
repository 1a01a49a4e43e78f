-- What the contracts cite.
pub mod Terms
