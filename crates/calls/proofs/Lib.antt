-- What a call that was not refused answers, and what the answers of several calls keep to.
pub mod Answered
pub mod Theorems
pub mod TwoCalls
pub mod LargerOpenings
pub mod AllOpenings
