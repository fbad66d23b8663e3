pub mod Updaters
pub mod Rates
pub mod RatedSet
pub mod Refusal
pub mod Laws
pub mod Ranking
