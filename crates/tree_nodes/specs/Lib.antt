-- What the contracts cite.
pub mod Nodes
