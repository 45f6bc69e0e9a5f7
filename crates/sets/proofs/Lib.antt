pub mod Sounds
pub mod Owned
pub mod Runs
pub mod Tables
pub mod Calls
pub mod Following
