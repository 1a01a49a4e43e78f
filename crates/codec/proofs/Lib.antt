-- The laws of reading and writing. Theorems has what the reader and other crates cite.
pub mod Answered
pub mod PlanRead
pub mod LongInput
pub mod RoundTrip
pub mod Theorems
pub mod Worked
