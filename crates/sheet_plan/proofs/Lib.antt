-- The laws of a sheet.
pub mod MinusZero
pub mod Theorems
pub mod Worked
