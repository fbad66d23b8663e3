pub mod Parts
pub mod Marks
pub mod Seen
pub mod Lanes
pub mod Shown
pub mod Places
pub mod Svg
