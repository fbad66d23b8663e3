pub mod Scaled
pub mod Barriers
pub mod Margins
pub mod Laws
pub mod Steps
pub mod Slacks
pub mod Spares
pub mod SlackLaws
