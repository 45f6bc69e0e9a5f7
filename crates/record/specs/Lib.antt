pub mod Noted
pub mod Check
pub mod Views
