pub mod Runs
pub mod Histories
pub mod Seats
pub mod Laws
pub mod Plannable
pub mod EagerLaws
