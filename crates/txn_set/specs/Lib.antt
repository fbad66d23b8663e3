pub mod Set
pub mod Ceilings
