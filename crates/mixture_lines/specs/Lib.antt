-- The lines of a mixture's report: the text, and what asking needs and leaves.
pub mod Lines
