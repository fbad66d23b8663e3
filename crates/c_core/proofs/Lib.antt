pub mod Holders
pub mod Calling
pub mod Over
