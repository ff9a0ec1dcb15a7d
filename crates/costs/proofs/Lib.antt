-- The laws of the crate; crates above import Interface, and the worked cases also Same. Assumes nothing.
pub mod Interface
mod Writes
pub mod Segments
mod JoinLaws
