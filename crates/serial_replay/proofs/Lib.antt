mod Outside
mod Agains
mod Replayed
mod Spans
pub mod Released
