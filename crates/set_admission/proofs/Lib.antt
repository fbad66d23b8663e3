pub mod Falling
pub mod Found
pub mod Link
pub mod Tables
pub mod AgeRows
pub mod Admitted
pub mod Kept
pub mod Agree
