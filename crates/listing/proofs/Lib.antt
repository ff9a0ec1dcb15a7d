-- Lemmas on lines. Assumes nothing.
pub mod Listing
pub mod Answering
