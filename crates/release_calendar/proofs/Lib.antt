mod Firsts
mod Keeps
mod Keys
mod Leasts
pub mod Moves
mod Releases
mod Splits
mod Ticks
