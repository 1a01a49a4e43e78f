-- What the contracts cite.
pub mod Lines
