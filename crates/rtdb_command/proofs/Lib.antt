pub mod Telling
pub mod Journaling
