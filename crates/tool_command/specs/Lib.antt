pub mod Commands
pub mod Shape
pub mod Asking
pub mod Slacks
pub mod Priorities
pub mod Reports
pub mod Answers
