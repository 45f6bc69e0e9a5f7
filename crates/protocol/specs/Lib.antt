pub mod Tallies
pub mod Turns
pub mod Outcome
