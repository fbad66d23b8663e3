pub mod Commands
pub mod Shape
pub mod Asking
