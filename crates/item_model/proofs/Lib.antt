pub mod Noting
pub mod Aparts
