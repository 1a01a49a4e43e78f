-- The quoting desk's line.
pub mod Quote
