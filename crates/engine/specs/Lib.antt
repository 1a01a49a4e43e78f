-- What the contracts cite: Answers for the calls, LastRows for the functions below them.
pub mod LastRows
pub mod Answers
