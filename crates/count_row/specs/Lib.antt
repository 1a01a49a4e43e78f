-- What the contracts cite: Answers for the call, Counts for the functions below it.
pub mod Counts
pub mod Answers
