pub mod Response
pub mod Deadlines
pub mod Ages
pub mod Freshness
pub mod Assigned
pub mod Pass
pub mod Laws
