-- The laws of the chart.
pub mod Laws
