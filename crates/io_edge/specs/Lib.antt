pub mod Causes
pub mod Memory
pub mod Reading
pub mod Words
pub mod Statuses
