pub mod Kinds
pub mod Work
