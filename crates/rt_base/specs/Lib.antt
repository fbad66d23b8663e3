pub mod LockRule
pub mod Names
pub mod NameInside
pub mod Planning
pub mod Ranks
pub mod Running
pub mod Shelf
