-- What the library promises. Assumes nothing.
pub mod Books
pub mod Lent
pub mod Runs
pub mod Refusals
pub mod Checks
pub mod Steps
pub mod Replies
pub mod Tables
pub mod Memory
pub mod Exactness
pub mod Law
pub mod Marks
pub mod Kept
pub mod Placing
pub mod Theorems
pub mod Calls
pub mod Replaying
