-- What the report prints. Assumes nothing.
pub mod Reports
