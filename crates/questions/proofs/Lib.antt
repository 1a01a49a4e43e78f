-- Laws of the refusals and of a question's rows, that of survive among them.
pub mod RefusalLaws
pub mod ShapeLaws
pub mod SurvivalLaws
