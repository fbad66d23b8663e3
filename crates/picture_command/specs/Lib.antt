pub mod Parts
pub mod Limits
pub mod Answers
pub mod Tables
pub mod Page
