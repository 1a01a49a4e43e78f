pub mod Rooms
pub mod Records
pub mod Rounded
