pub mod Limited
pub mod Above
pub mod Tested
pub mod Unchanged
pub mod Admitted
pub mod Compiling
