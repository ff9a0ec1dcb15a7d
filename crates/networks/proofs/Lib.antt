-- What follows of the crate's definitions. Assumes nothing.
pub mod Small
pub mod Places
pub mod Joining
pub mod Forming
pub mod Steps
pub mod Covering
pub mod Attaining
pub mod Determined
pub mod Evaluating
pub mod Found
pub mod Ways
pub mod Finish
pub mod Promised
