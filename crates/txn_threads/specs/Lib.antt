pub mod Scripts
pub mod Plans
pub mod Rising
pub mod Tasks
pub mod Rounds
pub mod Runs
