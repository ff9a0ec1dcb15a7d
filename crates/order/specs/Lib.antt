-- The order of working. Assumes nothing.
pub mod Order
pub mod Ways
