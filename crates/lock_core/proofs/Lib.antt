pub mod Refused
pub mod Stood
pub mod Called
pub mod Lawful
