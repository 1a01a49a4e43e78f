pub mod Laws
pub mod Beyond
