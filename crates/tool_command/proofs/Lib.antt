pub mod Lines
pub mod Enters
pub mod Words
pub mod Texts
pub mod Assigning
pub mod Due
pub mod Statuses
