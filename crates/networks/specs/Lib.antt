-- What the crate promises: how a composite's card is formed, what a run is, when a sheet is refused. Assumes nothing.
pub mod Forming
pub mod Networks
pub mod Carried
pub mod Cards
pub mod Runs
pub mod Evaluation
pub mod Rows
pub mod Drafts
pub mod Refusals
pub mod Promises
pub mod Ways
