pub mod Tallying
pub mod Aging
pub mod Bounding
pub mod SumTelling
pub mod Chains
