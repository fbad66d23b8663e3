pub mod Compiles
pub mod Replying
pub mod Analysing
pub mod Legal
pub mod Plain
