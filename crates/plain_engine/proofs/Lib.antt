-- Laws of one value and of the call.
pub mod ValueLaws
pub mod Theorems
