-- The lines of the reserve report: the lines as bytes, and what asking needs and leaves.
pub mod Lines
pub mod Asking
