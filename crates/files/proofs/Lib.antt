-- What follows of files and their calls. Assumes nothing.
pub mod Decoding
pub mod Printing
