-- The reserve report as bytes: the whole, from its lines.
pub mod Report
