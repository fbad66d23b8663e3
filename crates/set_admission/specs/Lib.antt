pub mod Bounds
pub mod Admission
pub mod Rows
pub mod Laws
