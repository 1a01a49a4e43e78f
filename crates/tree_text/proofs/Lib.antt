-- Laws of the text, and how long it can get.
pub mod TreeLaws
pub mod RoomLaws
pub mod Theorems
