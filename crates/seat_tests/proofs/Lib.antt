pub mod Members
pub mod Freshness
