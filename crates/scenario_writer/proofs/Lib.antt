mod Ascii
mod Each
pub mod GeneratedNames
mod GeneratedReleases
pub mod GeneratedScripts
pub mod GeneratedSet
mod Loops
pub mod Merging
mod Plain
pub mod Ranges
mod Runs
mod Sending
mod Whole
