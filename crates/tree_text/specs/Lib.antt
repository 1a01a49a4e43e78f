-- What the contracts cite: Tree for the call, Rooms and Terms for the functions below it.
pub mod Tree
pub mod Rooms
pub mod Terms
