-- Laws that belong to no one function.
pub mod Decimals
pub mod Lines
pub mod Numbers
