pub mod Sheet
pub mod Rules
pub mod Terms
