pub mod Verdicts
pub mod Texts
pub mod Findings
pub mod Scripts
pub mod Warnings
pub mod Holding
