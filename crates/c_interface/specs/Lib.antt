pub mod Packed
pub mod Told
pub mod Calls
pub mod Writes
pub mod Shown
