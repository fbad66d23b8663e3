pub mod Ticks
pub mod Along
pub mod Seen
pub mod Sums
pub mod Finding
