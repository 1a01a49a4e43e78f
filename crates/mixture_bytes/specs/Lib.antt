-- What the contracts cite: Format for what the bytes of a mixture mean, Refusal for when they are turned away, Reading for what reading leaves, Input for what a program takes in.
pub mod Format
pub mod Refusal
pub mod Reading
pub mod Input
