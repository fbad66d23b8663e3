pub mod Held
pub mod Forms
pub mod Back
pub mod Rows
pub mod Refusals
pub mod Laws
pub mod Margins
pub mod MarginLaws
