-- What the crate promises: how a card is formed, what a run is, when a sheet is refused. Assumes nothing.
pub mod Forming
pub mod Charts
pub mod Cards
pub mod Runs
pub mod Evaluation
pub mod Theorems
pub mod Refusals
pub mod Naming
pub mod Rows
