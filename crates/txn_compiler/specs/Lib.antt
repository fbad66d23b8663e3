pub mod Graph
pub mod Refusal
pub mod Tables
pub mod Kept
pub mod Laws
