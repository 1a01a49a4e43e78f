-- Laws of the nodes, and which there can be.
pub mod NodeLaws
pub mod Theorems
