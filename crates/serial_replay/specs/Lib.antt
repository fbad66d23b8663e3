pub mod Replays
pub mod Spans
pub mod Boards
