-- The planner's chart as bytes.
pub mod Chart
