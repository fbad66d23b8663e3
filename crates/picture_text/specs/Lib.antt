pub mod Legend
pub mod Ages
pub mod Texts
