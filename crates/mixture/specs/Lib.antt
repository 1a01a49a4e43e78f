-- What the contracts cite: Bounds for what the bounds of a mixture are and what holds of them, Answers for the call, Sums for the function below it.
pub mod Bounds
pub mod Answers
pub mod Sums
