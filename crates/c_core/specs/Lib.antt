pub mod Calls
pub mod Called
pub mod Open
