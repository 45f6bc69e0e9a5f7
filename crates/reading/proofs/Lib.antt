pub mod Examples
pub mod Lines
pub mod Steps
pub mod Stable
pub mod Readings
pub mod Limits
pub mod Shifted
