pub mod Owning
pub mod Feeding
pub mod Nexting
pub mod Seeking
pub mod Refusals
pub mod Waiting
