pub mod Canonical
pub mod Generated
pub mod Integers
pub mod Writable
pub mod Runs
pub mod Sent
