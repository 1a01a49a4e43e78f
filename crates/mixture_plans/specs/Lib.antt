-- What the contracts cite: Components for what a mixture is, Rows for how it lies in memory, Refusal for when it is turned away.
pub mod Components
pub mod Rows
pub mod Refusal
