-- What the contracts cite: Answers for the call, Steps for the functions below it.
pub mod Steps
pub mod Answers
