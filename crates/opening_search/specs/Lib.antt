-- What the contracts cite: Answers for the call, the others below it.
pub mod Least
pub mod Refusal
pub mod Answers
pub mod Search
