-- The report of a mixture as bytes: the whole, from its lines.
pub mod Report
