mod Bits
pub mod Padding
pub mod Ranks
