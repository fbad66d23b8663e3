pub mod Places
pub mod Levels
pub mod Greatest
pub mod Tight
pub mod Ranges
pub mod Windows
mod Growing
pub mod Chosen
pub mod Retimed
pub mod Updating
pub mod Declared
pub mod Unblocked
pub mod Admitting
pub mod Planned
