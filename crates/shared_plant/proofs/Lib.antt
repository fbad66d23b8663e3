pub mod Kept
pub mod Drains
pub mod Answering
pub mod Laters
pub mod Turns
pub mod Closing
pub mod Starting
pub mod Apart
