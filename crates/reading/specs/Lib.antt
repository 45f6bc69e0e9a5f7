pub mod Bytes
pub mod Answer
pub mod Reading
pub mod Size
pub mod Lists
pub mod Shift
pub mod Marked
