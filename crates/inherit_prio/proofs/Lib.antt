pub mod Orders
mod Ranks
mod Ranked
mod Table
