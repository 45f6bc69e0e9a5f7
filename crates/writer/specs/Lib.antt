pub mod Bytes
pub mod Fields
pub mod Answer
pub mod Promises
pub mod Back
