-- Laws that belong to no one function, and the theorems.
pub mod Laws
pub mod Standing
pub mod ReadBack
pub mod Answers
