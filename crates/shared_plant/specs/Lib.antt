pub mod Shared
pub mod Seats
pub mod Answers
pub mod Steps
