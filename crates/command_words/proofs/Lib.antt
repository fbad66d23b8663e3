pub mod Walks
pub mod Enters
pub mod Leaves
pub mod Parts
pub mod Replies
pub mod Lines
