pub mod AskingLaws
pub mod LineLaws
