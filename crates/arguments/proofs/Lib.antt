-- Laws of numbers and words as they are written.
pub mod Spelling
pub mod WordLaws
pub mod Theorems
