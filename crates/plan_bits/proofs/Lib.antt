-- The laws of plan bytes.
pub mod Fields
pub mod PlanBits
pub mod RefusalLaws
