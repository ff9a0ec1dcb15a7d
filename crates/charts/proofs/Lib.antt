-- What follows of cards and runs. Assumes nothing.
pub mod Segments
pub mod Firsts
pub mod Evaluating
pub mod Dests
pub mod Ways
pub mod Refusing
pub mod Steps
pub mod Tables
pub mod Costs
pub mod ByKind
pub mod Working
pub mod Carding
pub mod Covering
pub mod Attaining
pub mod Serving
pub mod Promises
