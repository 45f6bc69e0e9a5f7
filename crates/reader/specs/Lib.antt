pub mod State
pub mod Feed
pub mod Next
pub mod Waiting
pub mod Seek
pub mod Numbers
pub mod Inside
