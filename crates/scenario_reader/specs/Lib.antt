pub mod Refusals
pub mod Unknown
pub mod Made
pub mod Judged
pub mod Reading
pub mod Walks
pub mod Planning
