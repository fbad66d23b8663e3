pub mod Limits
pub mod Around
pub mod Answers
pub mod Laws
