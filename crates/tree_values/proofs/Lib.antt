-- Laws of a node's value as text, and what the lines of a node say together.
pub mod ValueLines
pub mod Theorems
