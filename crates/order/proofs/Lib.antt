-- What follows of orders and ways. Assumes nothing.
pub mod Orders
pub mod Induction
pub mod Ways
pub mod Circles
mod Found
