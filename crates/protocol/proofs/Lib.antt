pub mod Supplies
pub mod Tallies
pub mod Turns
pub mod Windows
pub mod Between
pub mod Outcomes
pub mod Examples
