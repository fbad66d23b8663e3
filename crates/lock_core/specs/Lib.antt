pub mod Seen
pub mod Stands
pub mod Calls
pub mod Promises
