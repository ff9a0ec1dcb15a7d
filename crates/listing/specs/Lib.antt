-- Lines of text. Assumes nothing.
pub mod Lines
pub mod Telling
pub mod Cards
pub mod Answers
