-- The worked cases. Assumes nothing.
pub mod CostCases
pub mod ChartCases
pub mod NetworkCases
pub mod Cases
