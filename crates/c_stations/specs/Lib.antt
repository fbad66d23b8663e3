pub mod Seats
pub mod Tries
pub mod Calls
pub mod Device
pub mod Kept
pub mod Opening
pub mod Appending
pub mod Answering
